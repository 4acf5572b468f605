-- Ranges as sets of numbers.
use Rattle.std.specs.Prelude.{◌≡◌, ℤ, pos, negsuc, ◌≤ℤ◌, ◌<ℤ◌, ◌⊎◌, Option, Some, None}
use Rattle.mc_base.specs.declared.ranges.Range.{Range}
use Rattle.mc_base.specs.Ranges.Ends.{IsBetween, IsInt}

-- a number lies in a range
abbrev pub Holds : Range → ℤ → Type 0
Holds range number = IsBetween range.lo range.hi number

-- no number lies in a range
abbrev pub IsEmpty : Range → Type 0
IsEmpty range = range.hi <ℤ range.lo

-- each number of the second range lies in the first
abbrev pub Includes : (outer inner : Range) → Type 0
Includes outer inner = (number : ℤ) → Holds inner number → Holds outer number

-- a range has a number, and each of its numbers is an `int`
abbrev pub IsIntRange : Range → Type 0
IsIntRange range = (range.lo ≤ℤ range.hi) × IsInt range.lo × IsInt range.hi

-- the least range that holds each number of a set: whatever ends hold them all hold it too
pub record IsLeastRange (In : ℤ → Type 0) (range : Range) : Type 0 where
  pub all : (number : ℤ) → In number → Holds range number
  pub least : (low high : ℤ) → ((number : ℤ) → In number → IsBetween low high number) → (number : ℤ)
      → Holds range number → IsBetween low high number

-- a number lies in one of two ranges
abbrev pub InEither : (left right : Range) (number : ℤ) → Type 0
InEither left right number = Holds left number ⊎ Holds right number

-- a number is what an operation makes of a number of one range and a number of the other
abbrev pub IsOutcome : (ℤ → ℤ → ℤ) → (left right : Range) (number : ℤ) → Type 0
IsOutcome op left right number = (x y : ℤ) × Holds left x × Holds right y × (number ≡ op x y)

-- some number of a set is no `int`
abbrev pub Leaves : (ℤ → Type 0) → Type 0
Leaves In = (number : ℤ) × In number × (IsInt number → ⊥)

-- the least range of a set, where that lies in `int`; none exactly where it does not
abbrev pub IsLeastIntRange : (ℤ → Type 0) → Option Range → Type 0
IsLeastIntRange In None = Leaves In
IsLeastIntRange In (Some range) = IsLeastRange In range × IsIntRange range

-- the range of two ends, where it lies in `int`; none exactly where it does not
abbrev pub IsWithinInt : (low high : ℤ) → Option Range → Type 0
IsWithinInt low high None = (low <ℤ negsuc 2147483647) ⊎ (pos 2147483647 <ℤ high)
IsWithinInt low high (Some range) = (range.lo ≡ low) × (range.hi ≡ high) × IsIntRange range
