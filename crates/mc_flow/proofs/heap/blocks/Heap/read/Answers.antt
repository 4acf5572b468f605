use Rattle.std.proofs.Common.{sym, ap, ◌∙◌, Some, None}
use Rattle.std.specs.Prelude.{Option, option_copied}
use Rattle.mc_flow.specs.Heap.Heap.{Block}
use Rattle.mc_flow.specs.Heap.Access.{read_of, field_at}
use Rattle.mc_flow.proofs.HeapLemmas.Entries.{found_view}
use Rattle.mc_flow.proofs.heap.blocks.Heap.read.Goals as goal

pub returns-in_default-clause-answer : goal.returns-in_default-clause-answer
returns-in_default-clause-answer c =
    ap (λ (o : Option Block). read_of (field_at o c.args.shape c.args.field))
    (sym (found_view c.self.inside.blocks c.args.self.now c.args.address None c.self.view_is (ap option_copied (sym c.in_default.is) ∙ c.get.ensures.value)))

pub returns-clause-answer : goal.returns-clause-answer
returns-clause-answer c =
    c.read.ensures
    ∙ ap (λ (o : Option Block). read_of (field_at o c.args.shape c.args.field))
    (sym (found_view c.self.inside.blocks c.args.self.now c.args.address (Some c.in-Some.cell.now) c.self.view_is (ap option_copied (sym c.in-Some.is) ∙ c.get.ensures.value)))
