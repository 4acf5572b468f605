use Rattle.std.proofs.Common.{◌≡◌, ℤ, ◌+ℤ◌, ◌<ℤ◌, inl, inr, arith, rules, true}
use Rattle.std.proofs.lemmas.Int.{ints, to_z-of_z}
use mir.Syntax.{w128}
use mir.Val.{SFits, to_z, of_z}
use lib.Signed.{lt_z}
use Rattle.mc_pure_ops.proofs.canon.gaps.are_apart.Goals as goal
use Rattle.mc_pure.proofs.Clean.{fits_small}

low_than : (a b c : ℤ) → SFits w128 a → SFits w128 b → SFits w128 c → SFits w128 (b +ℤ c) → lt_z (to_z w128 (of_z w128 a)) (to_z w128 (of_z w128 (to_z w128 (of_z w128 b) +ℤ to_z w128 (of_z w128 c)))) ≡ true → a <ℤ (b +ℤ c)
low_than a b c f g h k e = let x = simp to_z-of_z at e in grind (arith, ints)

high_than : (a b c : ℤ) → SFits w128 a → SFits w128 b → SFits w128 c → SFits w128 (b +ℤ c) → lt_z (to_z w128 (of_z w128 (to_z w128 (of_z w128 b) +ℤ to_z w128 (of_z w128 c)))) (to_z w128 (of_z w128 a)) ≡ true → (b +ℤ c) <ℤ a
high_than a b c f g h k e = let x = simp to_z-of_z at e in grind (arith, ints)

pub returns-then-left-right-clause-yes : goal.returns-then-left-right-clause-yes
returns-then-left-right-clause-yes c =
    let p = c.requires.lo in
    let q = c.requires.short in
    let f : SFits w128 c.args.left.now.hi = search rules in
    let g : SFits w128 c.args.right.now.lo = search rules in
    λ e. inl (low_than c.args.left.now.hi c.args.right.now.lo c.args.by f g c.ranges.by (fits_small _ (omega (arith, ints)) (omega (arith, ints))) c.if-left-right.true)

pub returns-then-right-by-clause-yes : goal.returns-then-right-by-clause-yes
returns-then-right-by-clause-yes c =
    let p = c.requires.hi in
    let q = c.requires.short in
    let f : SFits w128 c.args.left.now.lo = search rules in
    let g : SFits w128 c.args.right.now.hi = search rules in
    λ e. inr (high_than c.args.left.now.lo c.args.right.now.hi c.args.by f g c.ranges.by (fits_small _ (omega (arith, ints)) (omega (arith, ints))) c.if-right-by.true)
