use Rattle.std.proofs.Common.{◌≡◌, ◌∙◌, [], ◌∷◌, ap, ap₂, sym, subst, pos}
use Rattle.std.specs.Int.{int_max, int_min}
use Rattle.mc_base.specs.declared.plain.Atom.TheVariants.{In, Ne}
use Rattle.mc_base.specs.declared.plain.Kind.TheVariants.{Int}
use Rattle.mc_pure.specs.Pure.{AreOfOneKind}
use Rattle.mc_state.specs.State.{State, with_atom, with_atoms}
use Rattle.mc_apply_steps.proofs.ComputeLemmas.Written.{three_atoms}
use Rattle.mc_apply_steps.proofs.compute.order.assume_above.Goals as goal

pub returns : goal.returns
returns c =
    let s = c.args.s.now in
    let a = c.args.a in
    let b = c.args.b in
    let l = c.args.left in
    let r = c.args.right in
    let low = c.meet-low.result in
    let high = c.meet-high.result in
    let least = c.meet-low.ensures.low ∙ ap (int_max l.lo) c.between-middle.ensures.low in
    let greatest = c.meet-high.ensures.high ∙ ap (int_min r.hi) c.between-middle.ensures.high in
    c.in_ok-assume_apart.ensures ∙ ap (λ (t : State). with_atom t (Ne a b (pos 0))) c.in_ok-assume_in-2.ensures
    ∙ ap (λ (t : State). with_atom (with_atom t (In b r.lo high.hi)) (Ne a b (pos 0))) c.in_ok-assume_in.ensures
    ∙ three_atoms s (In a low.lo l.hi) (In b r.lo high.hi) (Ne a b (pos 0))
    ∙ ap₂ (λ lo hi. with_atoms s (In a lo l.hi ∷ In b r.lo hi ∷ Ne a b (pos 0) ∷ [])) least greatest
