-- Products of numbers of two ranges lie between the products of the ends.
use Rattle.std.proofs.Common.{ℤ, ◌≤ℤ◌, ◌*ℤ◌, refl, arith}
use Rattle.std.proofs.lemmas.Int.{ints, clamps}
use Rattle.mc_base.specs.declared.ranges.Range.{Range}
use Rattle.mc_base.specs.Ranges.Ends.{IsBetween}
use Rattle.mc_base.specs.Ranges.Range.{Holds}
use Rattle.mc_rules_steps.specs.Sums.{least_of, greatest_of}
use Rattle.mc_base.proofs.RangesLemmas.Products.{Product, above, below, int_max_either, int_min_either}

-- the least of four numbers is below each, the greatest is above each, and both are among them
least_below : (a b c d : ℤ) → (least_of a b c d ≤ℤ a) × (least_of a b c d ≤ℤ b) × (least_of a b c d ≤ℤ c) × (least_of a b c d ≤ℤ d)
least_below a b c d = (omega (arith, ints, clamps), omega (arith, ints, clamps), omega (arith, ints, clamps), omega (arith, ints, clamps))

greatest_above : (a b c d : ℤ) → (a ≤ℤ greatest_of a b c d) × (b ≤ℤ greatest_of a b c d) × (c ≤ℤ greatest_of a b c d) × (d ≤ℤ greatest_of a b c d)
greatest_above a b c d = (omega (arith, ints, clamps), omega (arith, ints, clamps), omega (arith, ints, clamps), omega (arith, ints, clamps))

-- the products of the ends
abbrev pub low_end : Range → Range → ℤ
low_end left right = least_of (left.lo *ℤ right.lo) (left.lo *ℤ right.hi) (left.hi *ℤ right.lo) (left.hi *ℤ right.hi)

abbrev pub high_end : Range → Range → ℤ
high_end left right = greatest_of (left.lo *ℤ right.lo) (left.lo *ℤ right.hi) (left.hi *ℤ right.lo) (left.hi *ℤ right.hi)

module _ (left right : Range) (p : left.lo ≤ℤ left.hi) (q : right.lo ≤ℤ right.hi) where
  low_left : Holds left left.lo
  low_left = (omega (arith, ints), p)

  high_left : Holds left left.hi
  high_left = (p, omega (arith, ints))

  low_right : Holds right right.lo
  low_right = (omega (arith, ints), q)

  high_right : Holds right right.hi
  high_right = (q, omega (arith, ints))

  pub low_product : Product left right (low_end left right)
  low_product =
      int_min_either (Product left right) _ _
      (int_min_either (Product left right) _ _ (left.lo, right.lo, low_left, low_right, refl) (left.lo, right.hi, low_left, high_right, refl))
      (int_min_either (Product left right) _ _ (left.hi, right.lo, high_left, low_right, refl) (left.hi, right.hi, high_left, high_right, refl))

  pub high_product : Product left right (high_end left right)
  high_product =
      int_max_either (Product left right) _ _
      (int_max_either (Product left right) _ _ (left.lo, right.lo, low_left, low_right, refl) (left.lo, right.hi, low_left, high_right, refl))
      (int_max_either (Product left right) _ _ (left.hi, right.lo, high_left, low_right, refl) (left.hi, right.hi, high_left, high_right, refl))

pub products_between : (left right : Range) (number : ℤ) → Product left right number → IsBetween (low_end left right) (high_end left right) number
products_between left right number made =
    let low = least_below (left.lo *ℤ right.lo) (left.lo *ℤ right.hi) (left.hi *ℤ right.lo) (left.hi *ℤ right.hi) in
    let high = greatest_above (left.lo *ℤ right.lo) (left.lo *ℤ right.hi) (left.hi *ℤ right.lo) (left.hi *ℤ right.hi) in
    rw made.4 (above _ left right made.0 made.1 made.2 made.3 low.0 low.1 low.2 low.3, below _ left right made.0 made.1 made.2 made.3 high.0 high.1 high.2 high.3)
