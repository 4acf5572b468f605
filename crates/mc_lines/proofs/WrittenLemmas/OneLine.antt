-- What is written for a value has no line feed.
use Rattle.std.proofs.Common.{◌≡◌, ◌+◌, ◌++◌, ℕ, zero, suc, ℤ, pos, negsuc, ◌/◌, ◌%◌, Bool, true, false, cond, List, [], ◌∷◌, nat_lt, refl, arith, decimal}
use Rattle.std.specs.Prelude.{if◌then◌else◌, ◌==◌}
use Rattle.std.specs.List.{AllByRecursion}
use Rattle.std.specs.Fmt.{digit_glyph, digits, digits_onto, signed_decimal}
use Rattle.std.specs.Char.{digit_char}
use Rattle.json.specs.Print.{escape, escape_byte, escape_letter, quoted}
use Rattle.serde_json.specs.Data.{Num, unsigned, negative, float, Data, null, boolean, number, string, array, object, Items, no_items, item, Members, no_members, member}
use Rattle.serde_json.specs.Written.{comma_if, compact_text, items_text, members_text, number_text}

abbrev pub IsOneLine : List ℕ → Type 0
IsOneLine bytes = AllByRecursion (λ b. b ≡ 10 → ⊥) bytes

pub both : (xs ys : List ℕ) → IsOneLine xs → IsOneLine ys → IsOneLine (xs ++ ys)
both [] ys a b = b
both (x ∷ xs) ys a b = (a.0, both xs ys a.1 b)

-- ---- numbers
glyph : (d : ℕ) → digit_glyph false d ≡ 10 → ⊥
glyph d e = go (nat_lt d 10) e
  where
    go : (b : Bool) → (if b then 48 + d else 87 + d) ≡ 10 → ⊥
    go true bad = absurd (omega (arith, bad))
    go false bad = absurd (omega (arith, bad))

digits_line : (k n : ℕ) (acc : List ℕ) → IsOneLine acc → IsOneLine (digits_onto k 10 false n acc)
digits_line zero n acc line = line
digits_line (suc k) n acc line = go (n / 10 == 0) (digits_line k (n / 10) (digit_glyph false (n % 10) ∷ acc) (glyph (n % 10), line))
  where
    go : (b : Bool) → IsOneLine (digits_onto k 10 false (n / 10) (digit_glyph false (n % 10) ∷ acc))
        → IsOneLine (if b then digit_glyph false (n % 10) ∷ acc else digits_onto k 10 false (n / 10) (digit_glyph false (n % 10) ∷ acc))
    go true later = (glyph (n % 10), line)
    go false later = later

decimal_line : (n : ℕ) → IsOneLine (decimal n)
unfolding digits
decimal_line n = digits_line 64 n [] tt

signed_line : (z : ℤ) → IsOneLine (signed_decimal z)
signed_line (pos n) = decimal_line n
signed_line (negsuc n) = (λ e. absurd (omega (arith, e)), decimal_line (suc n))

number_line : (n : Num) → IsOneLine (number_text n)
number_line (unsigned n) = decimal_line n
number_line (negative z) = signed_line z
number_line (float x) = tt

-- ---- strings
digit_line : (d : ℕ) → digit_char d ≡ 10 → ⊥
digit_line d e = absurd (grind (arith, e))

letter_line : (x : ℕ) → escape_letter x ≡ 10 → ⊥
letter_line x e = absurd (grind (arith, e))

plain_line : (x : ℕ) → nat_lt 0 (escape_letter x) ≡ false → x ≡ 10 → ⊥
plain_line x e f = absurd (grind (arith, e, f))

byte_line : (x : ℕ) → IsOneLine (escape_byte x)
unfolding escape_byte
byte_line x = go (nat_lt 0 (escape_letter x)) (nat_lt x 32) (plain_line x)
  where
    go : (b c : Bool) → (b ≡ false → x ≡ 10 → ⊥)
        → IsOneLine (cond b (92 ∷ escape_letter x ∷ []) (cond c (92 ∷ 117 ∷ 48 ∷ 48 ∷ digit_char (x / 16) ∷ digit_char (x % 16) ∷ []) (x ∷ [])))
    go true c plain = (λ e. absurd (omega (arith, e)), (letter_line x, tt))
    go false true plain =
        (λ e. absurd (omega (arith, e)), (λ e. absurd (omega (arith, e)), (λ e. absurd (omega (arith, e)), (λ e. absurd (omega (arith, e)), (digit_line (x / 16), (digit_line (x % 16), tt))))))
    go false false plain = (plain refl, tt)

escape_line : (s : List ℕ) → IsOneLine (escape s)
escape_line [] = tt
escape_line (x ∷ xs) = both (escape_byte x) (escape xs) (byte_line x) (escape_line xs)

quoted_line : (s : List ℕ) → IsOneLine (quoted s)
quoted_line s = (λ e. absurd (omega (arith, e)), both (escape s) (34 ∷ []) (escape_line s) (λ e. absurd (omega (arith, e)), tt))

-- ---- values
comma_line : (later : Bool) → IsOneLine (comma_if later)
comma_line true = (λ e. absurd (omega (arith, e)), tt)
comma_line false = tt

boolean_line : (b : Bool) → IsOneLine (compact_text (boolean b))
boolean_line true = (λ e. absurd (omega (arith, e)), (λ e. absurd (omega (arith, e)), (λ e. absurd (omega (arith, e)), (λ e. absurd (omega (arith, e)), tt))))
boolean_line false = (λ e. absurd (omega (arith, e)), (λ e. absurd (omega (arith, e)), (λ e. absurd (omega (arith, e)), (λ e. absurd (omega (arith, e)), (λ e. absurd (omega (arith, e)), tt)))))

mutual
  pub value_line : (d : Data) → IsOneLine (compact_text d)
  value_line null = (λ e. absurd (omega (arith, e)), (λ e. absurd (omega (arith, e)), (λ e. absurd (omega (arith, e)), (λ e. absurd (omega (arith, e)), tt))))
  value_line (boolean b) = boolean_line b
  value_line (number n) = number_line n
  value_line (string s) = quoted_line s
  value_line (array ds) = (λ e. absurd (omega (arith, e)), items_line false ds)
  value_line (object ms) = (λ e. absurd (omega (arith, e)), members_line false ms)

  items_line : (later : Bool) (ds : Items) → IsOneLine (items_text later ds)
  items_line later no_items = (λ e. absurd (omega (arith, e)), tt)
  items_line later (item d ds) =
      both (comma_if later) (compact_text d ++ items_text true ds) (comma_line later) (both (compact_text d) (items_text true ds) (value_line d) (items_line true ds))

  members_line : (later : Bool) (ms : Members) → IsOneLine (members_text later ms)
  members_line later no_members = (λ e. absurd (omega (arith, e)), tt)
  members_line later (member k d ms) =
      both (comma_if later) (quoted k ++ 58 ∷ (compact_text d ++ members_text true ms)) (comma_line later)
      (both (quoted k) (58 ∷ (compact_text d ++ members_text true ms)) (quoted_line k) (λ e. absurd (omega (arith, e)), both (compact_text d) (members_text true ms) (value_line d) (members_line true ms)))
