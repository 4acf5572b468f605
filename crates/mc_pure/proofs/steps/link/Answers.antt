use Rattle.std.proofs.Common.{◌≡◌, ◌<◌, ℤ, ◌-ℤ◌, ◌+ℤ◌, neg_ℤ, ◌∙◌, inl, inr, arith}
use Rattle.std.proofs.lemmas.Int.{ints}
use Rattle.mc_pure.specs.declared.rows.Row.{Row}
use Rattle.mc_pure.proofs.Clean.{same_cast, fits_small}
use Rattle.mc_pure.proofs.steps.link.Goals as goal
use Rattle.mc_pure.specs.Rows.{IsShort}
use Rattle.mc_pure.specs.Steps.{IsTame, JoinIs, LinkIs}
use Rattle.mc_pure.specs.declared.steps.Step.{Step}
use Rattle.mc_pure.specs.declared.steps.Step.TheVariants.{Stay, Empty, To}
use Rattle.mc_pure.proofs.Stepping.{small_by}
use mir.Syntax.{w128}
use mir.Val.{to_z, of_z}

abbrev Cast : ℤ → ℤ
Cast z = to_z w128 (of_z w128 z)

upper : (r t : Row) (c by : ℤ) (g : Step) → by ≡ (t.off +ℤ c) -ℤ r.off → t.rep.0 < r.rep.0 → JoinIs r t by g → LinkIs r t c g
upper r t c by Stay e w k = absurd k
upper r t c by Empty e w k = inr (inl (rw e at k))
upper r t c by (To g) e w k = inl (w, rw e at k)

lower : (r t : Row) (c by : ℤ) (g : Step) → by ≡ neg_ℤ ((t.off +ℤ c) -ℤ r.off) → r.rep.0 < t.rep.0 → JoinIs t r by g → LinkIs r t c g
lower r t c by Stay e w k = absurd k
lower r t c by Empty e w k = inr (inr (rw e at k))
lower r t c by (To g) e w k = inr (w, rw e at k)

module _ (r t : Row) (c : ℤ) (p : IsTame r) (q : IsTame t) (s : IsShort c) (d : ℤ) (is : d ≡ (t.off +ℤ Cast c) -ℤ r.off) where
  plain : d ≡ (t.off +ℤ c) -ℤ r.off
  plain = rw (same_cast c (fits_small c (omega (arith, ints)) (omega (arith, ints)))) at is

  small : (Cast d ≡ d)
  small = let x = small_by r t c p q s in let y = plain in same_cast d (fits_small d (omega (arith, ints, x.0)) (omega (arith, ints, x.1)))

  negative : (n : ℤ) → n ≡ neg_ℤ (Cast d) → Cast n ≡ neg_ℤ ((t.off +ℤ c) -ℤ r.off)
  negative n e =
      let x = small_by r t c p q s in
      let y = plain in
      let z : n ≡ neg_ℤ ((t.off +ℤ c) -ℤ r.off) = cc (e, small, y) in
      same_cast n (fits_small n (omega (arith, ints, x.1)) (omega (arith, ints, x.0))) ∙ z

pub returns-then-right-left : goal.returns-then-right-left
returns-then-right-left c =
    let q = c.requires in
    let s = small c.args.left.now c.args.right.now c.args.c q.left q.right q.short c.difference-by.result c.difference-by.ensures in
    let e = plain c.args.left.now c.args.right.now c.args.c q.left q.right q.short c.difference-by.result c.difference-by.ensures in
    upper c.args.left.now c.args.right.now c.args.c _ c.join.result (s ∙ e) c.if-right-left.true c.join.ensures

pub returns-else-right-left : goal.returns-else-right-left
returns-else-right-left c =
    let q = c.requires in
    let n = negative c.args.left.now c.args.right.now c.args.c q.left q.right q.short c.difference-by.result c.difference-by.ensures c.negated.result c.negated.ensures in
    lower c.args.left.now c.args.right.now c.args.c _ c.join-else-right-left.result n (omega (arith, c.if-right-left.false, c.if-left-right.false)) c.join-else-right-left.ensures
