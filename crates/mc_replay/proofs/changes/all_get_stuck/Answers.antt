use Rattle.std.proofs.Common.{◌≡◌, ◌<◌, ◌≤◌, true, false, List, get_or, length, sym, ap₂, ◌∙◌, subst, arith}
use denote.Bor.{Bor}
use Rattle.mc_state.specs.State.{State}
use Rattle.mc_state.specs.declared.line.JoinStep.{JoinStep}
use Rattle.mc_joins.specs.Chains.Judges.{gets_stuck}
use Rattle.mc_replay.specs.Whole.{MayJoin, TellsOf}
use Rattle.mc_replay.proofs.ChangesLemmas.Held.{held_at, both_yes, both_no, both_end}
use Rattle.mc_replay.proofs.changes.all_get_stuck.Goals as goal

pub gets_stuck-requires : goal.gets_stuck-requires
gets_stuck-requires c =
    subst (λ (x : Bor State). MayJoin c.args.defs.now x.now c.args.own.now) (sym c.index-lefts-i.is)
    (held_at (λ (left : State). MayJoin c.args.defs.now left c.args.own.now) c.args.lefts.now c.loop-i.i c.index-lefts-i.result (omega arith) c.requires.states)

pub returns-then-not-branch : goal.returns-then-not-branch
returns-then-not-branch c w e tells =
    let xs = c.args.lefts.now in
    let ys = c.args.tries.now in
    let i = c.loop-i.i in
    let l : i < length xs = omega arith in
    let m : i < length ys = omega arith in
    let both =
    subst (λ (x : Bor State). TellsOf w x.now c.args.own.now) (sym c.index-lefts-i.is)
    (held_at (λ (left : State). TellsOf w left c.args.own.now) xs i c.index-lefts-i.result l tells) in
    let own = sym c.if-not-branch.true ∙ c.in_ok-gets_stuck.ensures w e both in
    let here : false ≡ gets_stuck w c.args.own.now (get_or xs i c.index-lefts-i.result).now (get_or ys i c.index-tries-i.result) =
    own ∙ ap₂ (λ (x : Bor State) (y : List JoinStep). gets_stuck w c.args.own.now x.now y) c.index-lefts-i.is (c.as_slice.ensures ∙ c.index-tries-i.is) in
    both_no (gets_stuck w c.args.own.now) xs ys i c.index-lefts-i.result c.index-tries-i.result _ l m here (c.loop-i.invariant w e tells)

pub loop-i-preserved : goal.loop-i-preserved
loop-i-preserved c w e tells =
    let xs = c.args.lefts.now in
    let ys = c.args.tries.now in
    let i = c.loop-i.i in
    let l : i < length xs = omega arith in
    let m : i < length ys = omega arith in
    let both =
    subst (λ (x : Bor State). TellsOf w x.now c.args.own.now) (sym c.index-lefts-i.is)
    (held_at (λ (left : State). TellsOf w left c.args.own.now) xs i c.index-lefts-i.result l tells) in
    let own = sym c.if-not-branch.false ∙ c.in_ok-gets_stuck.ensures w e both in
    let here : true ≡ gets_stuck w c.args.own.now (get_or xs i c.index-lefts-i.result).now (get_or ys i c.index-tries-i.result) =
    own ∙ ap₂ (λ (x : Bor State) (y : List JoinStep). gets_stuck w c.args.own.now x.now y) c.index-lefts-i.is (c.as_slice.ensures ∙ c.index-tries-i.is) in
    both_yes (gets_stuck w c.args.own.now) xs ys i c.index-lefts-i.result c.index-tries-i.result _ l m here (c.loop-i.invariant w e tells)

pub returns : goal.returns
returns c w e tells =
    let xs = c.args.lefts.now in
    let ys = c.args.tries.now in
    let i = c.loop-i.i in
    let past : length xs ≤ i = omega arith in
    let also : length ys ≤ i = omega arith in
    both_end (gets_stuck w c.args.own.now) xs ys i _ past also (c.loop-i.invariant w e tells)
