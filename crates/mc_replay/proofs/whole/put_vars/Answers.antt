use Rattle.std.proofs.Common.{sym, subst, ap, refl}
use Rattle.mc_pure.specs.Pure.{Kinds, IsNode}
use Rattle.mc_state.specs.State.{State}
use Rattle.mc_replay.proofs.WholeLemmas.Putting.{known_at, vars_last, vars_next}
use Rattle.mc_replay.proofs.whole.put_vars.Goals as goal

pub set_var-requires : goal.set_var-requires
set_var-requires c = λ n e.
    subst (λ (ks : Kinds). IsNode ks n) (sym (ap (λ (s : State). s.kinds) c.loop-place.invariant))
    (known_at c.args.out.now.kinds c.args.env.now c.loop-place.place _ c.loop-place-test.true c.requires.there n e)

pub loop-place-preserved : goal.loop-place-preserved
loop-place-preserved c =
    vars_next c.args.out.now c.args.env.now c.loop-place.out c.set_var.new.self c.loop-place.place _ _ c.loop-place-test.true c.requires.long c.loop-place.invariant refl c.set_var.ensures

pub returns : goal.returns
returns c = vars_last c.args.out.now c.args.env.now c.loop-place.out c.loop-place.place c.loop-place-test.false c.requires.long c.loop-place.invariant
