-- The first bytes of a text tell its pieces apart.
use Rattle.std.proofs.Common.{◌≡◌, ◌<◌, ℕ, Bool, true, false, cond, eqb, not, ◌||◌, ◌&&◌, List, [], ◌∷◌, length, get_or, take, refl, ap, sym, subst, ⊎_elim, arith}
use Rattle.std.specs.Prelude.{codes}
use Rattle.std.specs.List.{list_any, list_all}
use Rattle.std.proofs.lemmas.Bool.{false≢true, eqb-true}
use Rattle.std.proofs.lemmas.Bool.Decides.{nat_tests, eqb_tells}
use Rattle.mc_c_syntax.specs.declared.lex.spot.Spot.{Spot}
use Rattle.mc_c_syntax.specs.declared.lex.piece.Piece.{Piece}
use Rattle.mc_c_syntax.specs.Lex.Bytes.{is_separator, is_letter, is_digit, is_word, is_double_mark, is_single_mark, double_marks, single_marks}
use Rattle.mc_c_syntax.specs.Lex.Pieces.{IsPiece, end, separator, line_comment, block_comment, include_line, name, number, mark, bad_byte, open_comment, bad_number, Begins, mark_len, first}

any_all_step : {X : Type 0} (p f : X → Bool) (Q : Type 0) → ((x : X) → p x ≡ true → f x ≡ true → Q) → (x : X) (v w any all : Bool) → p x ≡ v → f x ≡ w → v || any ≡ true → w && all ≡ true → (any ≡ true → all ≡ true → Q) → Q
any_all_step p f Q at x true true any all e g h k next = at x e g
any_all_step p f Q at x true false any all e g h k next = absurd (false≢true k)
any_all_step p f Q at x false true any all e g h k next = next h k
any_all_step p f Q at x false false any all e g h k next = absurd (false≢true k)

-- where an element passes p and each passes f, one passes both
any_all : {X : Type 0} (p f : X → Bool) (Q : Type 0) → ((x : X) → p x ≡ true → f x ≡ true → Q) → (xs : List X) → list_any p xs ≡ true → list_all f xs ≡ true → Q
any_all p f Q at [] any all = absurd (false≢true any)
any_all p f Q at (x ∷ xs) any all = any_all_step p f Q at x (p x) (f x) (list_any p xs) (list_all f xs) refl refl any all (any_all p f Q at xs)

-- a byte that begins no separator and no word
abbrev is_plain : ℕ → Bool
is_plain b = not (is_separator b || is_word b)

single_plain : (b : ℕ) → is_single_mark b ≡ true → is_plain b ≡ true
single_plain b e = any_all (λ mark. eqb mark b) is_plain (is_plain b ≡ true) (λ x same plain. let P : ℕ → Type 0 = λ n. is_plain n ≡ true in subst P (eqb-true x b same) plain) single_marks e refl

both_true : (v w : Bool) → v && w ≡ true → v ≡ true
both_true true w e = refl
both_true false w e = e

double_plain : (a b : ℕ) → is_double_mark a b ≡ true → is_plain a ≡ true
double_plain a b e =
    any_all (λ mark. eqb (get_or mark 0 0) a && eqb (get_or mark 1 0) b) (λ mark. is_plain (get_or mark 0 0)) (is_plain a ≡ true)
    (λ x same plain. let P : ℕ → Type 0 = λ n. is_plain n ≡ true in subst P (eqb-true (get_or x 0 0) a (both_true _ _ same)) plain) double_marks e refl

mark_plain_step : (a b : ℕ) (v w : Bool) → is_double_mark a b ≡ v → is_single_mark a ≡ w → 0 < cond v 2 (cond w 1 0) → is_plain a ≡ true
mark_plain_step a b true w e f some = double_plain a b e
mark_plain_step a b false true e f some = single_plain a f
mark_plain_step a b false false e f some = absurd (omega arith)

-- the first byte of a mark
mark_plain : (a : ℕ) (text : List ℕ) → 0 < mark_len (a ∷ text) → is_plain a ≡ true
mark_plain a text some = mark_plain_step a (get_or text 0 0) (is_double_mark a (get_or text 0 0)) (is_single_mark a) refl refl some

record IsOther (s l d : Bool) : Type 0 where
  separator_is : s ≡ false
  letter_is : l ≡ false
  digit_is : d ≡ false

plain_other : (s l d : Bool) → not (s || (l || d)) ≡ true → IsOther s l d
plain_other false false false e = record { separator_is = refl; letter_is = refl; digit_is = refl }
plain_other true l d e = absurd (false≢true e)
plain_other false true d e = absurd (false≢true e)
plain_other false false true e = absurd (false≢true e)

letter_no_separator : (b : ℕ) → is_letter b ≡ true → is_separator b ≡ false
letter_no_separator b e = grind (arith, nat_tests)

digit_no_separator : (b : ℕ) → is_digit b ≡ true → is_separator b ≡ false
digit_no_separator b e = grind (arith, nat_tests)

digit_no_letter : (b : ℕ) → is_digit b ≡ true → is_letter b ≡ false
digit_no_letter b e = grind (arith, nat_tests)

-- what the byte after a slash says
abbrev pub slash_class : ℕ → ℕ
slash_class b = cond (eqb b 47) 4 (cond (eqb b 42) 5 6)

-- what the first two bytes say
abbrev pub class_of : List ℕ → ℕ
class_of [] = 0
class_of (b ∷ text) = cond (is_separator b) 1 (cond (is_letter b) 2 (cond (is_digit b) 3 (cond (eqb b 47) (slash_class (get_or text 0 0)) 6)))

-- what kind of piece it is
abbrev pub kind_of : {spot : Spot} {text : List ℕ} {piece : Piece} → IsPiece spot text piece → ℕ
kind_of (end e) = 0
kind_of (separator e) = 1
kind_of (line_comment b e) = 4
kind_of (block_comment b c e) = 5
kind_of (include_line a i e) = 6
kind_of (name e n) = 2
kind_of (number e n s v) = 3
kind_of (mark m n l b i) = 6
kind_of (bad_byte s a w m) = 6
kind_of (open_comment b c) = 5
kind_of (bad_number e n) = 3

separator_class : (text : List ℕ) → is_separator (first text) ≡ true → class_of text ≡ 1
separator_class [] e = absurd (false≢true e)
separator_class (b ∷ text) e = rw e refl

letter_class : (text : List ℕ) → is_letter (first text) ≡ true → class_of text ≡ 2
letter_class [] e = absurd (false≢true e)
letter_class (b ∷ text) e = rw (letter_no_separator b e, e) refl

digit_class : (text : List ℕ) → is_digit (first text) ≡ true → class_of text ≡ 3
digit_class [] e = absurd (false≢true e)
digit_class (b ∷ text) e = rw (digit_no_separator b e, digit_no_letter b e, e) refl

line_class : (text : List ℕ) → Begins (codes "//") text → class_of text ≡ 4
line_class [] e = cc
line_class (a ∷ []) e = cc
line_class (a ∷ b ∷ text) e = let p : a ≡ 47 = cc in let q : b ≡ 47 = cc in rw (p, q) refl

block_class : (text : List ℕ) → Begins (codes "/*") text → class_of text ≡ 5
block_class [] e = cc
block_class (a ∷ []) e = cc
block_class (a ∷ b ∷ text) e = let p : a ≡ 47 = cc in let q : b ≡ 42 = cc in rw (p, q) refl

include_class : (text : List ℕ) → Begins (codes "#") text → class_of text ≡ 6
include_class [] e = cc
include_class (a ∷ text) e = let p : a ≡ 35 = cc in rw p refl

second_slash : (text : List ℕ) (c : ℕ) → 0 < c → get_or text 0 0 ≡ c → take 2 (47 ∷ text) ≡ 47 ∷ c ∷ []
second_slash [] c some e = absurd (omega arith)
second_slash (b ∷ text) c some e = ap (λ n. 47 ∷ n ∷ []) e

slash_other : (text : List ℕ) → ¬ Begins (codes "//") (47 ∷ text) → ¬ Begins (codes "/*") (47 ∷ text) → slash_class (get_or text 0 0) ≡ 6
slash_other text line block =
    ⊎_elim
    (λ same. absurd (line (second_slash text 47 (omega arith) same.1)))
    (λ apart. rw apart.0
    (⊎_elim
    (λ same. absurd (block (second_slash text 42 (omega arith) same.1)))
    (λ apart'. rw apart'.0 refl)
    (eqb_tells (get_or text 0 0) 42)))
    (eqb_tells (get_or text 0 0) 47)

other_class : (a : ℕ) (text : List ℕ) → IsOther (is_separator a) (is_letter a) (is_digit a) → (a ≡ 47 → slash_class (get_or text 0 0) ≡ 6) → class_of (a ∷ text) ≡ 6
other_class a text o slash =
    rw (o.separator_is, o.letter_is, o.digit_is)
    (⊎_elim (λ same. rw same.0 (slash same.1)) (λ apart. rw apart.0 refl) (eqb_tells a 47))

mark_class : (text : List ℕ) → 0 < mark_len text → ¬ Begins (codes "//") text → ¬ Begins (codes "/*") text → class_of text ≡ 6
mark_class [] some line block = absurd (omega arith)
mark_class (a ∷ text) some line block =
    other_class a text (plain_other _ _ _ (mark_plain a text some))
    (λ e. slash_other text (let P : ℕ → Type 0 = λ n. ¬ Begins (codes "//") (n ∷ text) in subst P e line) (let P : ℕ → Type 0 = λ n. ¬ Begins (codes "/*") (n ∷ text) in subst P e block))

word_parts : (l d : Bool) → l || d ≡ false → (l ≡ false) × (d ≡ false)
word_parts false false e = (refl, refl)
word_parts true d e = absurd (false≢true (sym e))
word_parts false true e = absurd (false≢true (sym e))

bad_class : (text : List ℕ) → 0 < length text → is_separator (first text) ≡ false → is_word (first text) ≡ false → mark_len text ≡ 0 → class_of text ≡ 6
bad_class [] some s w m = absurd (omega arith)
bad_class (a ∷ text) some s w m =
    let parts = word_parts _ _ w in
    other_class a text (record { separator_is = s; letter_is = parts.0; digit_is = parts.1 })
    (λ e. absurd (let P : ℕ → Type 0 = λ n. mark_len (n ∷ text) ≡ 0 in let slash = subst P e m in omega (arith, slash)))

-- a piece is of the kind that its text's first bytes say
pub class_is : {spot : Spot} (text : List ℕ) {piece : Piece} → (p : IsPiece spot text piece) → class_of text ≡ kind_of p
class_is text (end e) = ap class_of e
class_is text (separator e) = separator_class text e
class_is text (line_comment b e) = line_class text b
class_is text (block_comment b c e) = block_class text b
class_is text (include_line a i e) = include_class text i.0
class_is text (name e n) = letter_class text e
class_is text (number e n s v) = digit_class text e
class_is text (mark m n l b i) = mark_class text (let h = m in rw n at h) l b
class_is text (bad_byte s a w m) = bad_class text s a w m
class_is text (open_comment b c) = block_class text b
class_is text (bad_number e n) = digit_class text e
