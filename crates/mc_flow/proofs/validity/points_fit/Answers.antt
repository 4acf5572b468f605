use Rattle.std.proofs.Common.{◌≡◌, ◌+◌, ◌<◌, ℕ, List, length, get_or, refl, sym, ap, subst, ◌∙◌, inl, inr, slice_get, Some, arith}
use Rattle.std.proofs.lemmas.Bool.{cases_lt}
use Rattle.std.proofs.lemmas.Option.{slice_get_within, get_or_from_slice_get}
use Rattle.mc_flow.specs.declared.graph.Point.{Point}
use Rattle.mc_flow.specs.Valid.{PointFits}
use Rattle.mc_flow.proofs.validity.points_fit.Goals as goal

-- what holds at every number below one, and of the item there, holds at every number up to it
below_and_here : (P : ℕ → Point → Type 0) (points : List Point) (at : ℕ) (item : Point)
    → ((p : ℕ) (point : Point) → p < at → slice_get points p ≡ Some point → P p point) → item ≡ get_or points at item → P at item
    → (p : ℕ) (point : Point) → p < at + 1 → slice_get points p ≡ Some point → P p point
below_and_here P points at item below is here p point lt e = elim (cases_lt p at) [
  | inl less ↦ below p point less e
  | inr le ↦
      let same : p ≡ at = omega arith in
      let found : item ≡ point = is ∙ get_or_from_slice_get points at point item (subst (λ k. slice_get points k ≡ Some point) same e) in
      subst (λ k. P k point) (sym same) (subst (P at) found here)
]

pub loop-at-preserved : goal.loop-at-preserved
loop-at-preserved c =
    let items : c.as_slice-point-items.result.now ≡ c.args.flow.now.points = c.as_slice-point-items.ensures in
    below_and_here (PointFits c.args.flow.now c.args.defs.now) c.args.flow.now.points c.loop-at.at c.point-item.result c.loop-at.invariant
    (c.point-item.is ∙ ap (λ (points : List Point). get_or points c.loop-at.at c.point-item.result) items)
    (c.point_fits.ensures.0 c.if-not-point_fits.false)

pub returns : goal.returns
returns c = (
  λ t p point e.
      let items : c.as_slice-point-items.result.now ≡ c.args.flow.now.points = c.as_slice-point-items.ensures in
      let same = ap length items in
      let within : p < length c.args.flow.now.points = slice_get_within c.args.flow.now.points p point e in
      c.loop-at.invariant p point (omega arith) e,
  λ fits. refl,
)
