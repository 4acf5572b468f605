use Rattle.std.proofs.Common.{Option, sym, refl, subst}
use Rattle.mc_state.specs.State.{State}
use Rattle.mc_joins.specs.Chains.Judges.{basis}
use Rattle.mc_replay.specs.Changes.{states_held, IsJoined}
use Rattle.mc_replay.proofs.ChangesLemmas.Judged.{may_one, join_named, two_tell, rejoined_untidy, rejoined_none, rejoined_same, rejoined_all}
use Rattle.mc_replay.proofs.changes.rejoined.Goals as goal

pub returns-then-not-branch-2 : goal.returns-then-not-branch-2
returns-then-not-branch-2 c k flow right as_flow made =
    let lefts = states_held c.args.lefts.now in
    rejoined_untidy k flow c.args.defs.now right c.args.own.now lefts made c.args.round c.args.thresholds.now as_flow c.args.number c.in-Some.left.now (sym c.in-Some.ensures) c.args.steps.now
    (c.in_ok-is_tidy.ensures.0 c.if-not-branch.false) c.in_ok-is_tidy-2.field-0 c.in_ok-is_tidy-2.ensures c.if-not-branch-2.true

pub joined-requires-clause-states : goal.joined-requires-clause-states
joined-requires-clause-states c =
    may_one c.args.defs.now c.args.own.now (states_held c.args.lefts.now) c.requires.made (c.in_ok-is_tidy.ensures.0 c.if-not-branch.false)
    c.args.number c.in-Some.left.now (sym c.in-Some.ensures) (c.in_ok-is_tidy-2.ensures.0 c.if-not-branch-2.false)

pub returns-in_default-2 : goal.returns-in_default-2
returns-in_default-2 c k flow right as_flow made =
    let lefts = states_held c.args.lefts.now in
    let tell = two_tell k flow c.args.defs.now right c.args.own.now lefts made c.args.round c.args.thresholds.now as_flow c.args.number c.in-Some.left.now (sym c.in-Some.ensures) c.args.steps.now (c.in_ok-is_tidy.ensures.0 c.if-not-branch.false) (c.in_ok-is_tidy-2.ensures.0 c.if-not-branch-2.false) in
    let joins = subst (λ (o : Option State). IsJoined c.args.round c.args.thresholds.now c.in-Some.left.now c.args.own.now c.args.steps.now o (basis k c.args.defs.now)) c.in_default-2.is
    (c.in_ok-state.ensures (basis k c.args.defs.now) refl tell) in
    rejoined_none k flow c.args.defs.now right c.args.own.now lefts made c.args.round c.args.thresholds.now as_flow c.args.number c.in-Some.left.now (sym c.in-Some.ensures) c.args.steps.now (c.in_ok-is_tidy.ensures.0 c.if-not-branch.false) (c.in_ok-is_tidy-2.ensures.0 c.if-not-branch-2.false) joins

pub are_same-requires : goal.are_same-requires
are_same-requires c =
    join_named c.args.defs.now c.args.own.now (states_held c.args.lefts.now) c.requires.made c.made_are_told.ensures c.joins_name_all.ensures c.args.round c.args.thresholds.now c.args.number c.in-Some.left.now
    c.args.steps.now c.in-Some-2.state (sym c.in-Some.ensures)
    (λ w e tells. subst (λ (o : Option State). IsJoined c.args.round c.args.thresholds.now c.in-Some.left.now c.args.own.now c.args.steps.now o w) c.in-Some-2.is (c.in_ok-state.ensures w e tells))

pub returns-then-branch : goal.returns-then-branch
returns-then-branch c k flow right as_flow made =
    let lefts = states_held c.args.lefts.now in
    let tell = two_tell k flow c.args.defs.now right c.args.own.now lefts made c.args.round c.args.thresholds.now as_flow c.args.number c.in-Some.left.now (sym c.in-Some.ensures) c.args.steps.now (c.in_ok-is_tidy.ensures.0 c.if-not-branch.false) (c.in_ok-is_tidy-2.ensures.0 c.if-not-branch-2.false) in
    let joins = subst (λ (o : Option State). IsJoined c.args.round c.args.thresholds.now c.in-Some.left.now c.args.own.now c.args.steps.now o (basis k c.args.defs.now)) c.in-Some-2.is
    (c.in_ok-state.ensures (basis k c.args.defs.now) refl tell) in
    rejoined_same k flow c.args.defs.now right c.args.own.now lefts made c.args.round c.args.thresholds.now as_flow c.args.number c.in-Some.left.now (sym c.in-Some.ensures) c.args.steps.now (c.in_ok-is_tidy.ensures.0 c.if-not-branch.false) (c.in_ok-is_tidy-2.ensures.0 c.if-not-branch-2.false)
    c.joins_are_determined.ensures c.joins_make_well.ensures c.in-Some-2.state joins c.in_ok-are_same.field-0 c.in_ok-are_same.ensures c.if-branch.true

pub returns : goal.returns
returns c k flow right as_flow made =
    let lefts = states_held c.args.lefts.now in
    let tell = two_tell k flow c.args.defs.now right c.args.own.now lefts made c.args.round c.args.thresholds.now as_flow c.args.number c.in-Some.left.now (sym c.in-Some.ensures) c.args.steps.now (c.in_ok-is_tidy.ensures.0 c.if-not-branch.false) (c.in_ok-is_tidy-2.ensures.0 c.if-not-branch-2.false) in
    let joins = subst (λ (o : Option State). IsJoined c.args.round c.args.thresholds.now c.in-Some.left.now c.args.own.now c.args.steps.now o (basis k c.args.defs.now)) c.in-Some-2.is
    (c.in_ok-state.ensures (basis k c.args.defs.now) refl tell) in
    rejoined_all k flow c.args.defs.now right c.args.own.now lefts made c.args.round c.args.thresholds.now as_flow c.args.number c.in-Some.left.now (sym c.in-Some.ensures) c.args.steps.now (c.in_ok-is_tidy.ensures.0 c.if-not-branch.false) (c.in_ok-is_tidy-2.ensures.0 c.if-not-branch-2.false)
    c.joins_are_determined.ensures c.joins_make_well.ensures c.in-Some-2.state joins c.in_ok-are_same.field-0 c.in_ok-are_same.ensures c.if-branch.false
