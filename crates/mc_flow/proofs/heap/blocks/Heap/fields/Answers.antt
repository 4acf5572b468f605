use Rattle.std.proofs.Common.{sym, ap, ◌∙◌, Some, None}
use Rattle.std.specs.Prelude.{Option, option_copied}
use Rattle.mc_flow.specs.Heap.Heap.{Block}
use Rattle.mc_flow.specs.Heap.Access.{fields_at}
use Rattle.mc_flow.proofs.HeapLemmas.Entries.{found_view}
use Rattle.mc_flow.proofs.heap.blocks.Heap.fields.Goals as goal

pub returns-in_default : goal.returns-in_default
returns-in_default c =
    ap (λ (o : Option Block). fields_at o c.args.shape)
    (sym (found_view c.self.inside.blocks c.args.self.now c.args.address None c.self.view_is (ap option_copied (sym c.in_default.is) ∙ c.get.ensures.value)))

pub returns : goal.returns
returns c =
    c.fields.ensures
    ∙ ap (λ (o : Option Block). fields_at o c.args.shape)
    (sym (found_view c.self.inside.blocks c.args.self.now c.args.address (Some c.in-Some.cell.now) c.self.view_is (ap option_copied (sym c.in-Some.is) ∙ c.get.ensures.value)))
