-- Numbers between two ends.
use Rattle.std.specs.Prelude.{ℤ, pos, negsuc, ◌≤ℤ◌}

-- a number is from one end to the other, both counted
abbrev pub IsBetween : (low high number : ℤ) → Type 0
IsBetween low high number = (low ≤ℤ number) × (number ≤ℤ high)

-- an end of a range is from -2^62 to 2^62
abbrev pub IsEnd : ℤ → Type 0
IsEnd end = IsBetween (negsuc 4611686018427387903) (pos 4611686018427387904) end

-- a number is one of C's `int`, which has 32 bits
abbrev pub IsInt : ℤ → Type 0
IsInt number = IsBetween (negsuc 2147483647) (pos 2147483647) number
