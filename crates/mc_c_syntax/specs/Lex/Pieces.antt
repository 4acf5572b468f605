-- What a text is made of, seen from one spot of it on.
use Rattle.std.specs.Prelude.{◌≡◌, ◌+◌, ◌<◌, ◌≤◌, ◌==◌, ℕ, not, IsTrue, List, [], length, take, drop, codes, slice_index, if◌then◌else◌}
use Rattle.std.specs.Bool.{IsFalse}
use Rattle.std.specs.List.{prefix_len, take_while}
use Rattle.mc_base.specs.declared.text.token.TokenKind.TheVariants.{Name, Number, Mark}
use Rattle.mc_c_syntax.specs.declared.lex.fault.LexFault.TheVariants.{BadByte, OpenComment, BadNumber}
use Rattle.mc_c_syntax.specs.declared.lex.piece.Piece.{Piece}
use Rattle.mc_c_syntax.specs.declared.lex.piece.Piece.TheVariants.{End, Gap, Lexeme, Fault}
use Rattle.mc_c_syntax.specs.declared.lex.spot.Spot.{Spot}
use Rattle.mc_c_syntax.specs.Lex.Bytes.{is_blank, is_separator, is_letter, is_digit, is_word, is_double_mark, is_single_mark}
use Rattle.mc_base.specs.Text.Numbers.{max_number, Spells, IsNoNumber}

-- the first byte
abbrev pub first : List ℕ → ℕ
first text = slice_index text 0

-- the text begins with this word
abbrev pub Begins : List ℕ → List ℕ → Type 0
Begins word text = take (length word) text ≡ word

-- how many bytes there are up to the end of the line
abbrev pub line_len : List ℕ → ℕ
line_len text = prefix_len (λ b. not (b == 10)) text

-- how many letters, digits and `_` the text begins with
abbrev pub word_len : List ℕ → ℕ
word_len text = prefix_len is_word text

-- how many blanks and tabs the text begins with
abbrev pub blank_len : List ℕ → ℕ
blank_len text = prefix_len is_blank text

-- the letters, digits and `_` after those blanks and tabs
abbrev pub next_word : List ℕ → List ℕ
next_word text = take_while is_word (drop (blank_len text) text)

-- the length of the longest mark that the text begins with, and 0 where it begins with none
abbrev pub mark_len : List ℕ → ℕ
mark_len text =
    if is_double_mark (first text) (slice_index text 1) then 2
    else (if is_single_mark (first text) then 1 else 0)

-- the text begins with `#`, blanks and tabs, and the whole word `include`
abbrev pub IsInclude : List ℕ → Type 0
IsInclude text = Begins (codes "#") text × (next_word (drop 1 text) ≡ codes "include")

-- a `*/` stands after so many bytes of the text
abbrev pub Closes : List ℕ → ℕ → Type 0
Closes text count = Begins (codes "*/") (drop count text)

-- it is the first one
pub record IsFirstClose (text : List ℕ) (count : ℕ) : Type 0 where
  pub here : Closes text count
  pub none_before : (k : ℕ) → k < count → ¬ Closes text k

-- what the text begins with, at this spot: one of these, and no other
pub data IsPiece (spot : Spot) (text : List ℕ) : Piece → Type 0 where
  -- nothing
  end : text ≡ [] → IsPiece spot text End
  -- what parts tokens: a separator, a comment, or the rest of a line that begins with `#include`
  separator : IsTrue (is_separator (first text)) → IsPiece spot text (Gap 1)
  line_comment : {n : ℕ} → Begins (codes "//") text → n ≡ line_len text → IsPiece spot text (Gap n)
  block_comment : {n k : ℕ} → Begins (codes "/*") text → IsFirstClose (drop 2 text) k → n ≡ k + 4 → IsPiece spot text (Gap n)
  include_line : {n : ℕ} → IsTrue spot.at_line_start → IsInclude text → n ≡ line_len text → IsPiece spot text (Gap n)
  -- a token, which is as long as it can be
  name : {n : ℕ} → IsTrue (is_letter (first text)) → n ≡ word_len text → IsPiece spot text (Lexeme Name n)
  number : {n value : ℕ} → IsTrue (is_digit (first text)) → n ≡ word_len text → Spells (take n text) value
      → value ≤ max_number → IsPiece spot text (Lexeme Number n)
  mark : {n : ℕ} → 0 < n → n ≡ mark_len text → ¬ Begins (codes "//") text → ¬ Begins (codes "/*") text
      → ¬ (IsTrue spot.at_line_start × IsInclude text) → IsPiece spot text (Lexeme Mark n)
  -- what can't be read on
  bad_byte : 0 < length text → IsFalse (is_separator (first text)) → IsFalse (is_word (first text)) → mark_len text
      ≡ 0 → IsPiece spot text (Fault (BadByte spot.place))
  open_comment : Begins (codes "/*") text → ((k : ℕ) → ¬ Closes (drop 2 text) k) → IsPiece spot text (Fault (OpenComment spot.place))
  bad_number : IsTrue (is_digit (first text)) → IsNoNumber (take (word_len text) text) → IsPiece spot text (Fault (BadNumber spot.place))

-- a piece has at least one byte, and no more than the text
abbrev pub FitsIn : ℕ → Piece → Type 0
FitsIn count End = Unit {0}
FitsIn count (Gap n) = (0 < n) × (n ≤ count)
FitsIn count (Lexeme kind n) = (0 < n) × (n ≤ count)
FitsIn count (Fault fault) = Unit {0}
