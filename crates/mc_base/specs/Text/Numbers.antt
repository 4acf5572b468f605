-- How numbers are spelled.
use Rattle.std.specs.Prelude.{◌≡◌, ◌≢◌, ◌<◌, ℕ, List, ◌++◌, codes, slice_index}
use Rattle.std.specs.Str.Parse.{IsNumeral, digits_value}

-- the greatest number of a text
abbrev pub max_number : ℕ
max_number = 2147483647

-- a word spells a number: as 0, as a decimal that does not begin with 0, or as 0x and hexadecimal digits
pub data Spells (word : List ℕ) (value : ℕ) : Type 0 where
  as_zero : word ≡ codes "0" → value ≡ 0 → Spells word value
  as_decimal : IsNumeral 10 word → slice_index word 0 ≢ 48 → value ≡ digits_value 10 word → Spells word value
  as_hexadecimal : (digits : List ℕ) → word ≡ codes "0x" ++ digits → IsNumeral 16 digits → value
      ≡ digits_value 16 digits → Spells word value

-- a word spells no number that a text may have
abbrev pub IsNoNumber : List ℕ → Type 0
IsNoNumber word = (value : ℕ) → Spells word value → max_number < value
