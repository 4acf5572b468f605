-- The words that are printed for lexed tokens are tokens.
use Rattle.std.proofs.Common.{◌≡◌, ◌<◌, ◌≤◌, ◌+◌, ◌^◌, ℕ, zero, suc, Bool, true, false, cond, List, [], ◌∷◌, length, take, refl, ap, sym, ◌∙◌, subst, arith, ◌&&◌, Ok, Err}
use Rattle.std.specs.Prelude.{IsTrue}
use Rattle.std.specs.Char.{digit_value}
use Rattle.std.specs.List.{list_all, prefix_len}
use Rattle.std.specs.Fmt.{decimal}
use Rattle.std.specs.Str.Parse.{AllDigits}
use Rattle.std.proofs.lemmas.Bool.{false≢true}
use Rattle.std.proofs.lemmas.Bool.Decides.{nat_tests}
use Rattle.std.proofs.lemmas.Fmt.{decimal_is_IsNumeral, decimal_digit, first_decimal}
use Rattle.mc_base.specs.declared.text.token.Token.{Token}
use Rattle.mc_base.specs.declared.text.token.TokenKind.{TokenKind}
use Rattle.mc_c_syntax.specs.declared.lex.piece.Piece.TheVariants.{Lexeme}
use Rattle.mc_c_syntax.specs.declared.lex.spot.Spot.{Spot}
use Rattle.mc_c_syntax.specs.Lex.Bytes.{is_letter, is_digit, is_word}
use Rattle.mc_base.specs.Text.Numbers.{Spells, as_zero, as_decimal, max_number}
use Rattle.mc_c_syntax.specs.Lex.Pieces.{IsPiece, name, number, mark, first, word_len}
use Rattle.mc_c_syntax.specs.Lex.Readings.{Reading, Reads, at_end, at_fault, past_gap, past_token, token_at, onto}
use Rattle.mc_c_grammar.specs.Spelling.Words.{Words}
use Rattle.mc_c_grammar.specs.Printed.Printable.{IsPrintable, ArePrintable, name_word, number_word, mark_word, none_printable, one_printable}
use Rattle.mc_c_grammar.proofs.PrintedLemmas.Spelled.{IsWordOf, of_name, of_mark, of_number, AreWordsOf, no_words, some_words}
use Rattle.mc_c_grammar.proofs.PlacesLemmas.Lexed.{or_left, or_right}

-- a name is spelled by letters and digits after a letter
abbrev pub IsLexed : Token → Type 0
IsLexed token = token.kind ≡ TokenKind.Name → IsTrue (is_letter (first token.text)) × IsTrue (list_all is_word token.text)

abbrev pub AreLexed : List Token → Type 0
AreLexed [] = Unit {0}
AreLexed (token ∷ tokens) = IsLexed token × AreLexed tokens

abbrev AllLexed : Reading → Type 0
AllLexed (Ok tokens) = AreLexed tokens
AllLexed (Err fault) = Unit {0}

and_both : (p q : Bool) → p ≡ true → q ≡ true → (p && q) ≡ true
and_both true q e f = f
and_both false q e f = absurd (false≢true e)

-- what a word begins with passes, up to its end
passes_on : (p : ℕ → Bool) (b : ℕ) (text : List ℕ) (v : Bool) (m : ℕ) → p b ≡ v → list_all p (take m text) ≡ true → list_all p (take (cond v (1 + m) 0) (b ∷ text)) ≡ true
passes_on p b text true m e h =
    let next : suc m ≡ 1 + m = omega arith in
    subst (λ k. list_all p (take k (b ∷ text)) ≡ true) next (and_both (p b) (list_all p (take m text)) e h)
passes_on p b text false m e h = refl

prefix_passes : (p : ℕ → Bool) (text : List ℕ) → list_all p (take (prefix_len p text) text) ≡ true
prefix_passes p [] = refl
prefix_passes p (b ∷ text) = passes_on p b text (p b) (prefix_len p text) refl (prefix_passes p text)

first_stays : (b : ℕ) (text : List ℕ) (v : Bool) (m : ℕ) → v ≡ true → first (take (cond v (1 + m) 0) (b ∷ text)) ≡ b
first_stays b text true m e = let next : suc m ≡ 1 + m = omega arith in subst (λ k. first (take k (b ∷ text)) ≡ b) next refl
first_stays b text false m e = absurd (false≢true e)

first_letter : (text : List ℕ) → is_letter (first text) ≡ true → is_letter (first (take (word_len text) text)) ≡ true
first_letter [] e = e
first_letter (b ∷ text) e = ap is_letter (first_stays b text (is_word b) (word_len text) (or_left (is_letter b) (is_digit b) e)) ∙ e

piece_lexed : {spot : Spot} {text : List ℕ} {kind : TokenKind} {n : ℕ} → IsPiece spot text (Lexeme kind n) → IsLexed (token_at spot kind (take n text))
piece_lexed {text = text} (name letter len) is =
    subst (λ k. IsTrue (is_letter (first (take k text))) × IsTrue (list_all is_word (take k text))) (sym len) (first_letter text letter, prefix_passes is_word text)
piece_lexed (number digit len spelled small) is = absurd (grind arith)
piece_lexed (mark some len no_line no_block no_include) is = absurd (grind arith)

onto_lexed : (token : Token) (rest : Reading) → IsLexed token → AllLexed rest → AllLexed (onto token rest)
onto_lexed token (Ok tokens) one others = (one, others)
onto_lexed token (Err fault) one others = tt

all_lexed : {spot : Spot} {text : List ℕ} {reading : Reading} → Reads spot text reading → AllLexed reading
all_lexed (at_end piece) = (λ is. absurd (grind arith), tt)
all_lexed (at_fault piece) = tt
all_lexed (past_gap piece more) = all_lexed more
all_lexed (past_token {spot = spot} {text = text} {kind = kind} {n = n} {rest = rest} piece more e) =
    subst AllLexed (sym e) (onto_lexed (token_at spot kind (take n text)) rest (piece_lexed piece) (all_lexed more))

pub are_lexed : {spot : Spot} {text : List ℕ} {tokens : List Token} → Reads spot text (Ok tokens) → AreLexed tokens
are_lexed reads = all_lexed reads

-- a decimal is a number, and is read as the number that it writes
digit_is : (c : ℕ) → digit_value c < 10 → is_digit c ≡ true
digit_is c small = grind (arith, nat_tests)

digits_pass : (ds : List ℕ) → AllDigits 10 ds → list_all is_word ds ≡ true
digits_pass [] all = refl
digits_pass (d ∷ ds) all = and_both (is_word d) (list_all is_word ds) (or_right (is_letter d) (is_digit d) (digit_is d all.0)) (digits_pass ds all.1)

first_digit : (ds : List ℕ) → 0 < length ds → AllDigits 10 ds → is_digit (first ds) ≡ true
first_digit [] some all = absurd (omega arith)
first_digit (d ∷ ds) some all = digit_is d all.0

pub decimal_spells : (n : ℕ) → n ≤ max_number → Spells (decimal n) n
decimal_spells zero small = as_zero (decimal_digit 0 (omega arith)) refl
decimal_spells (suc n) small =
    let fits : suc n < 2 ^ 64 = omega arith in
    let numeral = decimal_is_IsNumeral (suc n) fits in
    let high = first_decimal (suc n) (omega arith) fits in
    as_decimal numeral.0 (λ e. absurd (omega (arith, high, e))) (sym numeral.1)

decimal_printable : (n : ℕ) → n ≤ max_number → IsPrintable (decimal n) TokenKind.Number
decimal_printable n small =
    let fits : n < 2 ^ 64 = omega arith in
    let numeral = decimal_is_IsNumeral n fits in
    number_word (first_digit (decimal n) numeral.0.0 numeral.0.1) (digits_pass (decimal n) numeral.0.1) (decimal_spells n small) small

-- the word of a lexed token is a token of its kind
pub word_printable : {token : Token} {word : List ℕ} → IsWordOf token word → IsLexed token → IsPrintable word token.kind
word_printable {word = word} (of_name kind text) lexed =
    let name = lexed kind in
    subst (λ k. IsPrintable word k) (sym kind) (name_word (subst (λ w. IsTrue (is_letter (first w))) text name.0) (subst (λ w. IsTrue (list_all is_word w)) text name.1))
word_printable {word = word} (of_mark kind text known) lexed = subst (λ k. IsPrintable word k) (sym kind) (mark_word known)
word_printable {word = word} (of_number {n = n} is e) lexed = subst (λ k. IsPrintable word k) (sym is.kind) (subst (λ w. IsPrintable w TokenKind.Number) (sym e) (decimal_printable n is.small))

pub words_printable : {tokens : List Token} {words : Words} → AreWordsOf tokens words → AreLexed tokens → ArePrintable words
words_printable (no_words end) lexed = none_printable
words_printable (some_words word others) lexed = one_printable (word_printable word lexed.0) (words_printable others lexed.1)
