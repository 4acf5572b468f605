-- The numbers that digits write.
use Rattle.std.proofs.Common.{◌≡◌, sym, ◌∙◌, subst, ◌+◌, ◌*◌, ◌≤◌, ◌<◌, ℕ, zero, suc, List, [], ◌∷◌, length, get_or, take, arith}
use Rattle.std.specs.Char.{digit_value}
use Rattle.std.specs.Str.Parse.{digits_value, digits_value_after, AllDigits}
use Rattle.std.proofs.Math.Nat.{mul-le-mul_left}
use Rattle.std.proofs.lemmas.Int.Digits.{digits_more, digits_value_more}

pub digit_at : (radix : ℕ) (digits : List ℕ) (i : ℕ) → AllDigits radix digits → i < length digits → digit_value (get_or digits i 0) < radix
digit_at radix [] i all within = absurd (omega arith)
digit_at radix (d ∷ digits) zero all within = all.0
digit_at radix (d ∷ digits) (suc i) all within = digit_at radix digits i all.1 (omega arith)

grows : (radix n : ℕ) → 1 ≤ radix → n ≤ n * radix
grows radix n positive = omega (arith, mul-le-mul_left n positive)

value_grows : (radix n : ℕ) (digits : List ℕ) → 1 ≤ radix → n ≤ digits_value_after radix n digits
value_grows radix n [] positive = omega arith
value_grows radix n (d ∷ digits) positive = omega (arith, value_grows radix (n * radix + digit_value d) digits positive, grows radix n positive)

front_after : (radix n : ℕ) (digits : List ℕ) (i : ℕ) → 1 ≤ radix → digits_value_after radix n (take i digits) ≤ digits_value_after radix n digits
front_after radix n [] zero positive = omega arith
front_after radix n [] (suc i) positive = omega arith
front_after radix n (d ∷ digits) zero positive = value_grows radix n (d ∷ digits) positive
front_after radix n (d ∷ digits) (suc i) positive = front_after radix (n * radix + digit_value d) digits i positive

-- the first digits write no greater number
pub front_value : (radix : ℕ) (digits : List ℕ) (i : ℕ) → 1 ≤ radix → digits_value radix (take i digits) ≤ digits_value radix digits
front_value radix digits i positive = front_after radix 0 digits i positive

-- one more digit, read after the first i
pub record IsNextDigit (radix : ℕ) (digits : List ℕ) (i value digit : ℕ) : Type 0 where
  pub within : i < length digits
  pub value_is : value ≡ digits_value radix (take i digits)
  pub digit_is : digit ≡ digit_value (get_or digits i 0)

pub next_value : (radix : ℕ) (digits : List ℕ) (i value digit : ℕ) → IsNextDigit radix digits i value digit → value * radix + digit ≡ digits_value radix (take (i + 1) digits)
next_value radix digits i value digit r =
    (λ j. r.value_is j * radix + r.digit_is j) ∙ sym (digits_value_more radix digits i r.within)

pub all_digits_next : (radix : ℕ) (digits : List ℕ) (i byte : ℕ) → i < length digits → byte ≡ get_or digits i 0 → AllDigits radix (take i digits) → digit_value byte < radix → AllDigits radix (take (i + 1) digits)
all_digits_next radix digits i byte within e all small =
    digits_more radix digits i within all (let P : ℕ → Type 0 = λ b. digit_value b < radix in subst P e small)
