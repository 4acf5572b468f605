use Rattle.std.proofs.Common.{◌≡◌, ◌<◌, true, false, ◌≤◌, length, refl, sym, ◌∙◌, subst, arith}
use denote.Bor.{Bor}
use Rattle.mc_state.specs.Facts.{IsTidy}
use Rattle.mc_state.specs.State.{State}
use Rattle.mc_replay.proofs.ChangesLemmas.Held.{held_at, held_more, held_end}
use Rattle.mc_replay.proofs.changes.are_tidy.Goals as goal

pub returns-then-not-branch : goal.returns-then-not-branch
returns-then-not-branch c =
    let xs = c.args.states.now in
    let i = c.loop-state.state-index in
    let l : i < length xs = omega arith in (
      λ t. let w : false ≡ true = t in absurd (cc w),
      λ all.
          let here : IsTidy c.state-item.result.now = subst (λ (x : Bor State). IsTidy x.now) (sym c.state-item.is) (held_at IsTidy xs i c.state-item.result l all) in
          let t = c.in_ok-is_tidy.ensures.1 here in
          let w : true ≡ false = sym t ∙ c.if-not-branch.true in
          absurd (cc w),
    )

pub loop-state-preserved : goal.loop-state-preserved
loop-state-preserved c =
    let xs = c.args.states.now in
    let i = c.loop-state.state-index in
    let l : i < length xs = omega arith in
    let here : IsTidy c.state-item.result.now = c.in_ok-is_tidy.ensures.0 c.if-not-branch.false in
    held_more IsTidy xs i c.state-item.result l (subst (λ (x : Bor State). IsTidy x.now) c.state-item.is here) c.loop-state.invariant

pub returns : goal.returns
returns c =
    let xs = c.args.states.now in
    let i = c.loop-state.state-index in
    let past : length xs ≤ i = omega arith in
    (λ t. held_end IsTidy xs i past c.loop-state.invariant, λ all. refl)
