-- The kinds of bytes.
use Rattle.std.specs.Prelude.{ℕ, ◌==◌, ◌&&◌, ◌||◌, Bool, List, [], ◌∷◌, codes, slice_index}
use Rattle.std.specs.List.{list_any}
use Rattle.std.specs.Char.{is_ascii_alphabetic, is_ascii_digit}

-- a blank or a tab
abbrev pub is_blank : ℕ → Bool
is_blank b = b == 32 || b == 9

-- a blank, a tab, a carriage return or a line feed
abbrev pub is_separator : ℕ → Bool
is_separator b = is_blank b || b == 13 || b == 10

-- a letter or `_`
abbrev pub is_letter : ℕ → Bool
is_letter b = is_ascii_alphabetic b || b == 95

-- a digit
abbrev pub is_digit : ℕ → Bool
is_digit b = is_ascii_digit b

-- a letter, a digit or `_`
abbrev pub is_word : ℕ → Bool
is_word b = is_letter b || is_digit b

-- the marks of two bytes
abbrev pub double_marks : List (List ℕ)
double_marks =
    codes "->" ∷ codes "++" ∷ codes "--" ∷ codes "+=" ∷ codes "-=" ∷ codes "==" ∷ codes "!=" ∷ codes "<=" ∷ codes ">="
    ∷ codes "&&" ∷ codes "||" ∷ codes "<<" ∷ codes ">>" ∷ []

-- the marks of one byte
abbrev pub single_marks : List ℕ
single_marks = codes "{}()[];,:.=+-*/%<>!&|^~?#\"'"

-- the two bytes are a mark
abbrev pub is_double_mark : ℕ → ℕ → Bool
is_double_mark a b = list_any (λ mark. slice_index mark 0 == a && slice_index mark 1 == b) double_marks

-- the byte is a mark
abbrev pub is_single_mark : ℕ → Bool
is_single_mark b = list_any (λ mark. mark == b) single_marks
