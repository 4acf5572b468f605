-- What the least range of a set is.
use Rattle.std.proofs.Common.{◌≡◌, ℤ, ◌≤ℤ◌, ◌+ℤ◌, ◌-ℤ◌, ◌*ℤ◌, Option, Some, None, refl, inl, inr, arith}
use Rattle.std.proofs.lemmas.Int.{ints, clamps}
use Rattle.std.specs.Int.{int_max, int_min}
use Rattle.mc_base.specs.declared.ranges.Range.{Range}
use Rattle.mc_base.specs.Ranges.Ends.{IsBetween}
use Rattle.mc_base.specs.Ranges.Range.{Holds, IsEmpty, InEither, IsIntRange, IsLeastRange, IsLeastIntRange, IsOutcome, IsWithinInt}
use Rattle.mc_base.proofs.RangesLemmas.Products.{low_end, high_end, low_product, high_product, products_between}

-- a range whose ends are in a set and that holds the set is the least one
least-ends : (In : ℤ → Type 0) (low high : ℤ) (range : Range) → range.lo ≡ low → range.hi ≡ high → In low → In high → ((number : ℤ) → In number → IsBetween low high number) → IsLeastRange In range
least-ends In low high range low_is high_is in_low in_high within = record {
  all = λ number there. let k = within number there in (omega (arith, ints), omega (arith, ints));
  least = λ a b bounds number there.
      let above = bounds low in_low in
      let below = bounds high in_high in
      (omega (arith, ints), omega (arith, ints));
}

-- the same, where the range is to lie in `int`
pub least_int-ends : (In : ℤ → Type 0) (low high : ℤ) (range : Option Range) → In low → In high → ((number : ℤ) → In number → IsBetween low high number) → IsWithinInt low high range → IsLeastIntRange In range
least_int-ends In low high None in_low in_high within (inl below) = (low, in_low, λ int. omega (arith, ints))
least_int-ends In low high None in_low in_high within (inr above) = (high, in_high, λ int. omega (arith, ints))
least_int-ends In low high (Some range) in_low in_high within is = (least-ends In low high range is.0 is.1 in_low in_high within, is.2)

-- the sums of numbers of two ranges
pub least-sums : (left right : Range) (range : Option Range) → IsIntRange left → IsIntRange right → IsWithinInt (left.lo +ℤ right.lo) (left.hi +ℤ right.hi) range → IsLeastIntRange (IsOutcome (λ x y. x +ℤ y) left right) range
least-sums left right range p q is =
    least_int-ends (IsOutcome (λ x y. x +ℤ y) left right) (left.lo +ℤ right.lo) (left.hi +ℤ right.hi) range
    (left.lo, right.lo, (omega (arith, ints), p.0), (omega (arith, ints), q.0), refl)
    (left.hi, right.hi, (p.0, omega (arith, ints)), (q.0, omega (arith, ints)), refl)
    (λ number made. between made.0 made.1 number made.2 made.3 made.4) is
  where
    between : (x y number : ℤ) → Holds left x → Holds right y → number ≡ x +ℤ y → IsBetween (left.lo +ℤ right.lo) (left.hi +ℤ right.hi) number
    between x y number a b e = (omega (arith, ints), omega (arith, ints))

-- the differences of numbers of two ranges
pub least-differences : (left right : Range) (range : Option Range) → IsIntRange left → IsIntRange right → IsWithinInt (left.lo -ℤ right.hi) (left.hi -ℤ right.lo) range → IsLeastIntRange (IsOutcome (λ x y. x -ℤ y) left right) range
least-differences left right range p q is =
    least_int-ends (IsOutcome (λ x y. x -ℤ y) left right) (left.lo -ℤ right.hi) (left.hi -ℤ right.lo) range
    (left.lo, right.hi, (omega (arith, ints), p.0), (q.0, omega (arith, ints)), refl)
    (left.hi, right.lo, (p.0, omega (arith, ints)), (omega (arith, ints), q.0), refl)
    (λ number made. between made.0 made.1 number made.2 made.3 made.4) is
  where
    between : (x y number : ℤ) → Holds left x → Holds right y → number ≡ x -ℤ y → IsBetween (left.lo -ℤ right.hi) (left.hi -ℤ right.lo) number
    between x y number a b e = (omega (arith, ints), omega (arith, ints))

-- the hull of two ranges that are not empty
pub least-hull : (left right range : Range) → left.lo ≤ℤ left.hi → right.lo ≤ℤ right.hi → range.lo ≡ int_min left.lo right.lo → range.hi ≡ int_max left.hi right.hi → IsLeastRange (InEither left right) range
least-hull left right range p q low high = record {
  all = within;
  least = λ a b bounds number there.
      let ll = bounds left.lo (inl (omega (arith, ints), p)) in
      let lh = bounds left.hi (inl (p, omega (arith, ints))) in
      let rl = bounds right.lo (inr (omega (arith, ints), q)) in
      let rh = bounds right.hi (inr (q, omega (arith, ints))) in
      (omega (arith, ints, clamps), omega (arith, ints, clamps));
}
  where
    within : (number : ℤ) → InEither left right number → Holds range number
    within number (inl h) = (omega (arith, ints, clamps), omega (arith, ints, clamps))
    within number (inr h) = (omega (arith, ints, clamps), omega (arith, ints, clamps))

pub least-left : (left right : Range) → IsEmpty right → IsLeastRange (InEither left right) left
least-left left right empty = record {
  all = within;
  least = λ a b bounds number there. bounds number (inl there);
}
  where
    within : (number : ℤ) → InEither left right number → Holds left number
    within number (inl h) = h
    within number (inr h) = absurd (omega (arith, ints))

-- the products of numbers of two ranges
pub least-products : (left right : Range) (range : Option Range) → IsIntRange left → IsIntRange right → IsWithinInt (low_end left right) (high_end left right) range → IsLeastIntRange (IsOutcome (λ x y. x *ℤ y) left right) range
least-products left right range p q is =
    least_int-ends (IsOutcome (λ x y. x *ℤ y) left right) (low_end left right) (high_end left right) range
    (low_product left right p.0 q.0) (high_product left right p.0 q.0) (products_between left right) is

-- two least ranges of a set that has a number have the same ends
pub least-unique : (In : ℤ → Type 0) (number : ℤ) → In number → (a b : Range) → IsLeastRange In a → IsLeastRange In b → (a.lo ≡ b.lo) × (a.hi ≡ b.hi)
least-unique In number there a b p q =
    let in_a = p.all number there in
    let in_b = q.all number there in
    let b_low = q.least a.lo a.hi p.all b.lo (omega (arith, ints), omega (arith, ints)) in
    let b_high = q.least a.lo a.hi p.all b.hi (omega (arith, ints), omega (arith, ints)) in
    let a_low = p.least b.lo b.hi q.all a.lo (omega (arith, ints), omega (arith, ints)) in
    let a_high = p.least b.lo b.hi q.all a.hi (omega (arith, ints), omega (arith, ints)) in
    (omega (arith, ints), omega (arith, ints))
