use Rattle.std.proofs.Common.{◌≡◌, ◌∙◌, [], ◌∷◌, ap, ap₂, sym, subst}
use Rattle.mc_base.specs.declared.plain.Atom.TheVariants.{In}
use Rattle.mc_base.specs.declared.plain.Kind.TheVariants.{Int}
use Rattle.mc_pure.specs.Pure.{IsNode}
use Rattle.mc_state.specs.State.{State, with_atom, with_atoms}
use Rattle.mc_apply_steps.proofs.ComputeLemmas.Written.{two_atoms}
use Rattle.mc_apply_steps.proofs.compute.order.assume_at_most.Goals as goal

pub returns : goal.returns
returns c =
    let s = c.args.s.now in
    let a = c.args.a in
    let b = c.args.b in
    let l = c.args.left in
    let r = c.args.right in
    let both = c.meet-both.result in
    c.in_ok-assume_in-2.ensures ∙ ap (λ (t : State). with_atom t (In b both.lo r.hi)) c.in_ok-assume_in.ensures
    ∙ two_atoms s (In a l.lo both.hi) (In b both.lo r.hi)
    ∙ ap₂ (λ high low. with_atoms s (In a l.lo high ∷ In b low r.hi ∷ [])) c.meet-both.ensures.high c.meet-both.ensures.low
