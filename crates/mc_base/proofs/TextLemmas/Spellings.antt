-- Which numbers a word spells, by its first bytes.
use Rattle.std.proofs.Common.{◌≡◌, ◌≤◌, ◌<◌, ℕ, List, [], ◌∷◌, Option, Some, None, length, get_or, drop, ap, sym, ◌∙◌, subst, arith}
use Rattle.std.specs.Prelude.{MatchOption}
use Rattle.std.specs.Option.{SomeIff}
use Rattle.std.specs.Str.Parse.{digits_value, IsNumeral}
use Rattle.mc_base.specs.Text.Numbers.{Spells, as_zero, as_decimal, as_hexadecimal, IsNoNumber}

-- what `numeral_value` answers
abbrev pub Valued : ℕ → List ℕ → Option ℕ → Type 0
Valued radix digits r = SomeIff r (IsNumeral radix digits × (digits_value radix digits ≤ 2147483647)) (digits_value radix digits)

-- what `number_value` answers
abbrev pub Answered : List ℕ → Option ℕ → Type 0
Answered word r = MatchOption r (IsNoNumber word) (λ value. Spells word value × (value ≤ 2147483647))

above : (n m : ℕ) → (n ≤ m → ⊥) → m < n
above n m h = omega arith

-- a word that begins with 0x spells what its digits do
hex_spelled : (word : List ℕ) (value : ℕ) → 2 ≤ length word → get_or word 0 0 ≡ 48 → Spells word value → IsNumeral 16 (drop 2 word) × (value ≡ digits_value 16 (drop 2 word))
hex_spelled word value long first (as_zero e is) = absurd (let one : length word ≡ 1 = ap length e in omega arith)
hex_spelled word value long first (as_decimal n apart is) = absurd (apart first)
hex_spelled word value long first (as_hexadecimal digits e n is) =
    let f : digits ≡ drop 2 word = sym (ap (drop 2) e) in
    (subst (IsNumeral 16) f n, is ∙ ap (digits_value 16) f)

pub hex_answered : (word digits : List ℕ) (r : Option ℕ) → 2 ≤ length word → get_or word 0 0 ≡ 48 → get_or word 1 0 ≡ 120 → digits ≡ drop 2 word → Valued 16 digits r → Answered word r
hex_answered word digits None long first second e v =
    λ value s. let h = hex_spelled word value long first s in
    above value 2147483647 (λ small. v (subst (IsNumeral 16) (sym e) h.0, let small' : value ≤ 2147483647 = small in rw (e, ← h.1) small'))
hex_answered [] digits (Some value) long first second e v = absurd (omega arith)
hex_answered (a ∷ []) digits (Some value) long first second e v = absurd (omega arith)
hex_answered (a ∷ b ∷ rest) digits (Some value) long first second e v =
    (as_hexadecimal digits ((λ i. first i ∷ second i ∷ sym e i)) v.0.0 v.1, let small = v.0.1 in rw v.1 small)
