use Rattle.std.proofs.Common.{sym, ap, ◌∙◌, Some, None}
use Rattle.std.specs.Option.{option_copied_mut}
use Rattle.std.proofs.Math.Facts.{to_z-of_z}
use Rattle.mc_flow.specs.Heap.Access.{with_field}
use Rattle.mc_flow.proofs.HeapLemmas.Entries.{found_view, is_written, kept_view, none_there, is_field_there, written_addresses}
use Rattle.mc_flow.proofs.heap.blocks.Heap.write.Goals as goal

pub returns-in_default-clause-there : goal.returns-in_default-clause-there
returns-in_default-clause-there c =
    none_there _ c.args.shape c.args.field
    (found_view c.self.inside.blocks c.args.self.now c.args.address None c.self.view_is (ap option_copied_mut (sym c.in_default.is) ∙ c.get_mut.ensures.value))

pub invariant_of-self-2 : goal.invariant_of-self-2
invariant_of-self-2 c =
    written_addresses c.self.inside.blocks (c.get_mut.follows.lender c.write.new.self) c.args.address c.in-Some.cell.now c.write.new.self
    (ap option_copied_mut (sym c.in-Some.is) ∙ c.get_mut.ensures.value) (c.get_mut.follows.holds c.write.new.self) c.self.invariant

pub returns-clause-there : goal.returns-clause-there
returns-clause-there c =
    is_field_there c.write.result _ c.in-Some.cell.now c.args.shape c.args.field
    (found_view c.self.inside.blocks c.args.self.now c.args.address (Some c.in-Some.cell.now) c.self.view_is (ap option_copied_mut (sym c.in-Some.is) ∙ c.get_mut.ensures.value))
    c.write.ensures.there

pub returns-clause-written : goal.returns-clause-written
returns-clause-written c = λ t.
    is_written c.self.inside.blocks (c.get_mut.follows.lender c.write.new.self) c.args.self.now c.args.address c.in-Some.cell.now c.write.new.self c.args.field c.args.value c.self.view_is
    (ap option_copied_mut (sym c.in-Some.is) ∙ c.get_mut.ensures.value) (c.get_mut.follows.holds c.write.new.self) (c.write.ensures.written t ∙ ap (with_field c.in-Some.cell.now c.args.field) (to_z-of_z c.ranges.value))

pub returns-clause-kept : goal.returns-clause-kept
returns-clause-kept c = λ f.
    kept_view c.self.inside.blocks (c.get_mut.follows.lender c.write.new.self) c.args.self.now c.args.address c.in-Some.cell.now c.write.new.self c.self.view_is
    (ap option_copied_mut (sym c.in-Some.is) ∙ c.get_mut.ensures.value) (c.get_mut.follows.holds c.write.new.self) (c.write.ensures.kept f)
