-- Numbers that are drawn, one after the other, beginning with a number.
use Rattle.std.specs.Prelude.{◌+◌, ◌*◌, ◌/◌, ◌%◌, ◌^◌, ℕ, zero, suc, List, [], ◌∷◌}

-- the number that comes after x
abbrev pub next_of : ℕ → ℕ
next_of x = (x * 1664525 + 1013904223) % 2 ^ 32

-- what x gives, below a number
abbrev pub drawn : (x below : ℕ) → ℕ
drawn x below = (x / 65536) % below

-- the number that x comes to by so many draws
abbrev pub after : (draws x : ℕ) → ℕ
after zero x = x
after (suc more) x = after more (next_of x)

-- what so many draws after x give, below a number
abbrev pub draws : (count below x : ℕ) → List ℕ
draws zero below x = []
draws (suc more) below x = drawn (next_of x) below ∷ draws more below (next_of x)
