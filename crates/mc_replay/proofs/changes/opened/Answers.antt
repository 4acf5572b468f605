use Rattle.std.proofs.Common.{◌≡◌, true, length, refl, sym, ◌∙◌, eq-eqb}
use Rattle.std.proofs.lemmas.List.{length-map}
use Rattle.std.specs.Prelude.{◌==◌}
use Rattle.mc_replay.specs.Changes.{states_held}
use Rattle.mc_replay.proofs.ChangesLemmas.Judged.{may_all, all_tell, opened_untidy, opened_free, opened_all}
use Rattle.mc_replay.proofs.changes.opened.Goals as goal

pub all_get_stuck-requires-clause-states : goal.all_get_stuck-requires-clause-states
all_get_stuck-requires-clause-states c =
    may_all c.args.defs.now c.args.own.now (states_held c.args.lefts.now) c.requires (c.in_ok-is_tidy.ensures.0 c.if-not-branch.false) (c.in_ok-are_tidy.ensures.0 c.if-not-branch-2.false)

pub returns-then-not-branch-2 : goal.returns-then-not-branch-2
returns-then-not-branch-2 c k flow right made =
    let lefts = states_held c.args.lefts.now in
    let count : (length c.args.tries.now == length lefts) ≡ true = eq-eqb (length c.args.tries.now) (length lefts) (c.if-tries-lefts.false ∙ sym (length-map c.args.lefts.now (λ s. s.now))) in
    opened_untidy k flow c.args.defs.now right c.args.own.now lefts made c.tests_tell.ensures.is_false c.args.tries.now count (c.in_ok-is_tidy.ensures.0 c.if-not-branch.false)
    c.in_ok-are_tidy.field-0 c.in_ok-are_tidy.ensures c.if-not-branch-2.true

pub returns-then-not-branch-3 : goal.returns-then-not-branch-3
returns-then-not-branch-3 c k flow right made =
    let lefts = states_held c.args.lefts.now in
    let count : (length c.args.tries.now == length lefts) ≡ true = eq-eqb (length c.args.tries.now) (length lefts) (c.if-tries-lefts.false ∙ sym (length-map c.args.lefts.now (λ s. s.now))) in
    opened_free k flow c.args.defs.now right c.args.own.now lefts made c.tests_tell.ensures.is_false c.args.tries.now count (c.in_ok-is_tidy.ensures.0 c.if-not-branch.false)
    (c.in_ok-are_tidy.ensures.0 c.if-not-branch-2.false)
    (sym c.if-not-branch-3.true ∙ c.in_ok-all_get_stuck.ensures _ refl (all_tell k flow c.args.defs.now right c.args.own.now lefts made))

pub returns : goal.returns
returns c k flow right made =
    let lefts = states_held c.args.lefts.now in
    let count : (length c.args.tries.now == length lefts) ≡ true = eq-eqb (length c.args.tries.now) (length lefts) (c.if-tries-lefts.false ∙ sym (length-map c.args.lefts.now (λ s. s.now))) in
    opened_all k flow c.args.defs.now right c.args.own.now lefts made c.tests_tell.ensures.is_false c.args.tries.now count (c.in_ok-is_tidy.ensures.0 c.if-not-branch.false)
    (c.in_ok-are_tidy.ensures.0 c.if-not-branch-2.false) c.in_ok-state.field-0.state c.in_ok-state.ensures.state
    (sym c.if-not-branch-3.false ∙ c.in_ok-all_get_stuck.ensures _ refl (all_tell k flow c.args.defs.now right c.args.own.now lefts made))
