-- What is printed of a program is read as the same program.
use Rattle.std.proofs.Common.{◌≡◌, ℕ, Bool, true, false, List, [], ◌∷◌, refl, ap, sym, ◌∙◌, subst, ◌&&◌, ◌||◌, not, Ok, Err}
use Rattle.std.specs.Prelude.{◌↔◌, IsTrue}
use Rattle.std.specs.List.{list_all}
use native.Mathlib.Omega.{arith}
use Rattle.std.proofs.lemmas.Bool.{false≢true}
use Rattle.std.proofs.lemmas.Bool.Decides.{nat_tests}
use Rattle.std.proofs.lemmas.Slice.Eq.{bytes_eq-Decides}
use Rattle.mc_base.specs.declared.text.token.Token.{Token}
use Rattle.mc_base.specs.declared.text.token.TokenKind.{TokenKind}
use Rattle.mc_c_syntax.specs.Lex.Bytes.{is_letter, is_digit, is_word}
use Rattle.mc_base.specs.Text.Numbers.{Spells}
use Rattle.mc_c_syntax.specs.Lex.Pieces.{first}
use Rattle.mc_c_syntax.specs.Lex.Readings.{Reading, Lexes}
use Rattle.mc_c_syntax.specs.Ast.Names.{Tokens, is_same, is_in}
use Rattle.mc_c_syntax.specs.Ast.Classes.{grammar_marks}
use Rattle.mc_c_syntax.specs.Ast.Grammar.{IsUnit}
use Rattle.mc_c_syntax.specs.Ast.Trees.{UnitTree}
use Rattle.mc_c_grammar.specs.Spelling.Words.{Words, text_of, unit_words}
use Rattle.mc_c_grammar.specs.Printed.Printable.{IsPrintable, ArePrintable, Carries, name_word, number_word, mark_word, carries_none, carries_one}
use Rattle.mc_c_grammar.specs.Printed.Aside.{unit_aside, IsSameAside}
use Rattle.mc_c_grammar.specs.Printed.Texts.{IsReadAs, printed}
use Rattle.mc_c_grammar.proofs.PrintedLemmas.SameWords.{same_words}
use Rattle.mc_c_grammar.proofs.PrintedLemmas.Alike.{AreSame, same_text, same_number, same_end, Alike, none_alike, alike}
use Rattle.mc_c_grammar.proofs.PrintedLemmas.AlikeUnits.{items_then, items_again}
use Rattle.mc_c_grammar.proofs.PrintedLemmas.Spelled.{IsWordOf, of_name, of_mark, of_number, AreWordsOf, no_words, some_words}
use Rattle.mc_c_grammar.proofs.PrintedLemmas.SpelledUnits.{unit_spelled}
use Rattle.mc_c_grammar.proofs.PrintedLemmas.Lexed.{IsLexed, AreLexed, are_lexed, word_printable, words_printable, decimal_spells}

-- what each word of a list passes, one of them does
passed : (f : List ℕ → Bool) (known word : List ℕ) (v w others : Bool) → is_same word known ≡ v → f known ≡ w → (others ≡ true → f word ≡ true) → (v || others) ≡ true → w ≡ true → f word ≡ true
passed f known word true w others same here next e h = ap f ((bytes_eq-Decides word known).0 same) ∙ here ∙ h
passed f known word false w others same here next e h = next e

pass_in : (f : List ℕ → Bool) (words : Words) (word : List ℕ) → list_all f words ≡ true → is_in words word ≡ true → f word ≡ true
pass_in f [] word all e = absurd (false≢true e)
pass_in f (known ∷ words) word all e =
    let both = and_parts (f known) (list_all f words) all in
    passed f known word (is_same word known) (f known) (is_in words word) refl refl (pass_in f words word both.1) e both.0
  where
    and_parts : (p q : Bool) → (p && q) ≡ true → (p ≡ true) × (q ≡ true)
    and_parts true q e = (refl, e)
    and_parts false q e = absurd (false≢true e)

abbrev is_no_word : List ℕ → Bool
is_no_word word = not (is_word (first word))

mark_is_no_word : (word : List ℕ) → IsTrue (is_in grammar_marks word) → is_no_word word ≡ true
mark_is_no_word word known = pass_in is_no_word grammar_marks word refl known

letter_apart : (b : ℕ) → is_letter b ≡ true → not (is_word b) ≡ true → ⊥
letter_apart b e f = grind (arith, nat_tests)

digit_apart : (b : ℕ) → is_digit b ≡ true → not (is_word b) ≡ true → ⊥
digit_apart b e f = grind (arith, nat_tests)

letter_no_digit : (b : ℕ) → is_letter b ≡ true → is_digit b ≡ true → ⊥
letter_no_digit b e f = grind (arith, nat_tests)

-- a word is a token of one kind
one_kind : {word : List ℕ} {j k : TokenKind} → IsPrintable word j → IsPrintable word k → j ≡ k
one_kind (name_word e a) (name_word e' a') = refl
one_kind {word = word} (name_word e a) (number_word e' a' s m) = absurd (letter_no_digit (first word) e e')
one_kind {word = word} (name_word e a) (mark_word known) = absurd (letter_apart (first word) e (mark_is_no_word word known))
one_kind {word = word} (number_word e a s m) (name_word e' a') = absurd (letter_no_digit (first word) e' e)
one_kind (number_word e a s m) (number_word e' a' s' m') = refl
one_kind {word = word} (number_word e a s m) (mark_word known) = absurd (digit_apart (first word) e (mark_is_no_word word known))
one_kind {word = word} (mark_word known) (name_word e a) = absurd (letter_apart (first word) e (mark_is_no_word word known))
one_kind {word = word} (mark_word known) (number_word e a s m) = absurd (digit_apart (first word) e (mark_is_no_word word known))
one_kind (mark_word known) (mark_word known') = refl

-- the token that is read for a word is the same as the one that it was printed for
same_token : {a b : Token} {word : List ℕ} → IsWordOf a word → IsLexed a → b.text ≡ word → IsPrintable word b.kind → AreSame a b
same_token {a = a} (of_name kind text) lexed e printable = same_text (one_kind (word_printable {token = a} (of_name kind text) lexed) printable) (text ∙ sym e)
same_token {a = a} (of_mark kind text known) lexed e printable = same_text (one_kind (word_printable {token = a} (of_mark kind text known) lexed) printable) (text ∙ sym e)
same_token {a = a} (of_number {n = n} is w) lexed e printable =
    same_number is (record { kind = sym (one_kind (word_printable {token = a} (of_number is w) lexed) printable) ∙ is.kind; spelled = subst (λ word. Spells word n) (sym (e ∙ w)) (decimal_spells n is.small); small = is.small })

same_tokens : {tokens read : Tokens} {words : Words} → AreWordsOf tokens words → AreLexed tokens → Carries read words → Alike tokens read
same_tokens (no_words end) lexed (carries_none end') = alike (same_end end end') none_alike
same_tokens (some_words word others) lexed (carries_one e printable more) = alike (same_token word lexed.0 e printable) (same_tokens others lexed.1 more)

-- words are read as tokens that carry them
abbrev pub AreRead : Type 0
AreRead = (words : Words) → ArePrintable words → (tokens : List Token) × Lexes (text_of words) (Ok tokens) × Carries tokens words

-- what is printed of a program is read again
pub read_again : {text : List ℕ} {unit : UnitTree} → AreRead → IsReadAs text unit → (other : UnitTree) × IsReadAs (printed unit) other × IsSameAside unit other
read_again {unit = unit} read was =
    let lexed = are_lexed was.lexed in
    let words = unit_spelled was.spelled in
    let again = read (unit_words unit []) (words_printable words lexed) in
    items_then (items_again {fs = []} was.spelled (same_tokens words lexed again.2) refl) λ other spelled e.
    (other, record { tokens = again.0; lexed = again.1; spelled = spelled }, e)

abbrev tokens_of : Reading → List Token
tokens_of (Ok tokens) = tokens
tokens_of (Err fault) = []

module _ (lexes_once : (text : List ℕ) (one other : Reading) → Lexes text one → Lexes text other → one ≡ other) (spells_once : (tokens : Tokens) (one other : UnitTree) → IsUnit one tokens → IsUnit other tokens → one ≡ other) where
  -- a text is read as one program
  read_once : {text : List ℕ} {one other : UnitTree} → IsReadAs text one → IsReadAs text other → one ≡ other
  read_once {text = text} {one = one} {other = other} r s =
      let tokens : r.tokens ≡ s.tokens = ap tokens_of (lexes_once text (Ok r.tokens) (Ok s.tokens) r.lexed s.lexed) in
      spells_once s.tokens one other (subst (λ ts. IsUnit one ts) tokens r.spelled) s.spelled

  pub read_only : {text : List ℕ} {unit other : UnitTree} → AreRead → IsReadAs text unit → IsReadAs (printed unit) other → IsSameAside unit other
  read_only read was again =
      let first = read_again read was in
      first.2 ∙ ap unit_aside (read_once first.1 again)

  pub apart : {text another : List ℕ} {unit other : UnitTree} → AreRead → IsReadAs text unit → IsReadAs another other → IsSameAside unit other ↔ (printed unit ≡ printed other)
  apart {unit = unit} {other = other} read was that = (
    λ e. ap text_of (same_words unit other e),
    λ e. let next = read_again read that in read_only read was (subst (λ text. IsReadAs text next.0) (sym e) next.1) ∙ sym next.2,
  )
