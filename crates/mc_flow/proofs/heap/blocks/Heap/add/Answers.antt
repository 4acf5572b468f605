use Rattle.std.proofs.Common.{sym, ap, ◌∙◌, refl}
use Rattle.std.specs.Prelude.{is_some, List, Option, ℤ}
use Rattle.mc_flow.proofs.HeapLemmas.Entries.{found_view, fresh_of, added_view, addresses_kept, is_taken, is_free}
use Rattle.mc_flow.proofs.heap.blocks.Heap.add.Goals as goal

pub returns-then-contains_key-clause-answer : goal.returns-then-contains_key-clause-answer
returns-then-contains_key-clause-answer c =
    is_taken _ (ap is_some (found_view c.self.inside.blocks c.args.self.now c.args.address _ c.self.view_is refl) ∙ sym c.contains_key.ensures ∙ c.if-contains_key.true)

pub invariant_of-self-2 : goal.invariant_of-self-2
invariant_of-self-2 c =
    addresses_kept c.self.inside.blocks c.insert.new.self c.args.address _ c.in_ok-insert.ensures.updates (λ _. c.requires) c.self.invariant

pub returns-clause-answer : goal.returns-clause-answer
returns-clause-answer c =
    is_free _ (ap is_some (found_view c.self.inside.blocks c.args.self.now c.args.address _ c.self.view_is refl) ∙ sym c.contains_key.ensures ∙ c.if-contains_key.false)

pub returns-clause-added : goal.returns-clause-added
returns-clause-added c = λ _.
    added_view c.self.inside.blocks c.insert.new.self c.args.self.now c.args.address _ _ c.self.view_is
    (ap (λ (fields : List (Option ℤ)). fresh_of c.args.shape fields) c.in_ok-fields.ensures) c.in_ok-insert.ensures.updates
