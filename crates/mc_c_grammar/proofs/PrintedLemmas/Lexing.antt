-- A text of words is read as tokens with these words.
use Rattle.std.proofs.Common.{◌≡◌, ◌<◌, ◌≤◌, ◌≢◌, ◌+◌, ℕ, suc, Bool, true, false, cond, List, [], ◌∷◌, ◌++◌, length, get_or, take, drop, refl, ap, sym, arith, ◌&&◌, ◌||◌, Ok}
use Rattle.std.specs.List.{list_all, prefix_len}
use Rattle.std.proofs.lemmas.Bool.{false≢true}
use Rattle.std.proofs.lemmas.Slice.Eq.{bytes_eq-Decides}
use Rattle.mc_base.specs.declared.text.token.Token.{Token}
use Rattle.mc_base.specs.declared.text.token.TokenKind.{TokenKind}
use Rattle.mc_c_syntax.specs.declared.lex.piece.Piece.TheVariants.{Lexeme}
use Rattle.mc_c_syntax.specs.declared.lex.spot.Spot.{Spot}
use Rattle.mc_c_syntax.specs.Lex.Spots.{behind}
use Rattle.mc_c_syntax.specs.Lex.Bytes.{is_letter, is_digit, is_word, is_separator}
use Rattle.mc_base.specs.Text.Numbers.{Spells, max_number}
use Rattle.mc_c_syntax.specs.Lex.Pieces.{IsPiece, end, separator, name, number, mark, first, mark_len}
use Rattle.mc_c_syntax.specs.Lex.Readings.{Reads, at_end, past_gap, past_token, token_at}
use Rattle.mc_c_syntax.specs.Ast.Names.{is_same, is_in}
use Rattle.mc_c_syntax.specs.Ast.Classes.{grammar_marks}
use Rattle.mc_c_grammar.specs.Spelling.Words.{Words, text_of, gap, line_ends}
use Rattle.mc_c_grammar.specs.Printed.Printable.{IsPrintable, ArePrintable, Carries, name_word, number_word, mark_word, none_printable, one_printable, carries_none, carries_one}

both_are : (b c : Bool) → (b && c) ≡ true → (b ≡ true) × (c ≡ true)
both_are true c e = (refl, e)
both_are false c e = absurd (false≢true e)

one-more : (b : Bool) (m n : ℕ) → b ≡ true → m ≡ n → cond b (1 + m) 0 ≡ suc n
one-more true m n e h = omega arith
one-more false m n e h = absurd (false≢true e)

-- how many bytes of a kind there are before one that is not
prefix-word : (p : ℕ → Bool) (word rest : List ℕ) (g : ℕ) → list_all p word ≡ true → p g ≡ false → prefix_len p (word ++ g ∷ rest) ≡ length word
prefix-word p [] rest g all stops = rw stops refl
prefix-word p (b ∷ word) rest g all stops =
    let both = both_are (p b) (list_all p word) all in
    one-more (p b) (prefix_len p (word ++ g ∷ rest)) (length word) both.0 (prefix-word p word rest g both.1 stops)

take-word : (word rest : List ℕ) → take (length word) (word ++ rest) ≡ word
take-word [] rest = refl
take-word (b ∷ word) rest = ap (λ more. b ∷ more) (take-word word rest)

drop-word : (word rest : List ℕ) → drop (length word) (word ++ rest) ≡ rest
drop-word [] rest = refl
drop-word (b ∷ word) rest = drop-word word rest

no_word : (b : Bool) → is_word (cond b 10 32) ≡ false
no_word true = refl
no_word false = refl

parts : (b : Bool) → is_separator (cond b 10 32) ≡ true
parts true = refl
parts false = refl

mark_here : (spot : Spot) (a : ℕ) (text : List ℕ) (n : ℕ) → 0 < n → n ≡ mark_len (a ∷ text) → a ≢ 47 → a ≢ 35 → IsPiece spot (a ∷ text) (Lexeme TokenKind.Mark n)
mark_here spot a text n some is no_slash no_hash =
    mark some is (λ e. no_slash (ap (λ bytes. get_or bytes 0 0) e)) (λ e. no_slash (ap (λ bytes. get_or bytes 0 0) e)) (λ e. no_hash (ap (λ bytes. get_or bytes 0 0) e.1.0))

-- each word has P
abbrev AreAll : (List ℕ → Type 0) → Words → Type 0
AreAll P [] = Unit {0}
AreAll P (word ∷ words) = P word × AreAll P words

all-step : (P : List ℕ → Type 0) (known word : List ℕ) (b others : Bool) → is_same word known ≡ b → P known → (others ≡ true → P word) → (b || others) ≡ true → P word
all-step P known word true others same here next e = rw ((bytes_eq-Decides word known).0 same) here
all-step P known word false others same here next e = next e

all_in : (P : List ℕ → Type 0) (words : Words) → AreAll P words → (word : List ℕ) → is_in words word ≡ true → P word
all_in P [] all word e = absurd (false≢true e)
all_in P (known ∷ words) all word e = all-step P known word (is_same word known) (is_in words word) refl all.0 (all_in P words all.1 word) e

abbrev IsMarkPiece : List ℕ → Type 0
IsMarkPiece word = (spot : Spot) (rest : List ℕ) → IsPiece spot (word ++ gap word ∷ rest) (Lexeme TokenKind.Mark (length word))

marks_are : AreAll IsMarkPiece grammar_marks
marks_are = (
  λ spot rest. mark_here spot 45 (62 ∷ 32 ∷ rest) 2 (omega arith) refl (omega arith) (omega arith),
  (
    λ spot rest. mark_here spot 43 (43 ∷ 32 ∷ rest) 2 (omega arith) refl (omega arith) (omega arith),
    (
      λ spot rest. mark_here spot 45 (45 ∷ 32 ∷ rest) 2 (omega arith) refl (omega arith) (omega arith),
      (
        λ spot rest. mark_here spot 43 (61 ∷ 32 ∷ rest) 2 (omega arith) refl (omega arith) (omega arith),
        (
          λ spot rest. mark_here spot 45 (61 ∷ 32 ∷ rest) 2 (omega arith) refl (omega arith) (omega arith),
          (
            λ spot rest. mark_here spot 38 (38 ∷ 32 ∷ rest) 2 (omega arith) refl (omega arith) (omega arith),
            (
              λ spot rest. mark_here spot 124 (124 ∷ 32 ∷ rest) 2 (omega arith) refl (omega arith) (omega arith),
              (
                λ spot rest. mark_here spot 123 (10 ∷ rest) 1 (omega arith) refl (omega arith) (omega arith),
                (
                  λ spot rest. mark_here spot 125 (10 ∷ rest) 1 (omega arith) refl (omega arith) (omega arith),
                  (
                    λ spot rest. mark_here spot 40 (32 ∷ rest) 1 (omega arith) refl (omega arith) (omega arith),
                    (
                      λ spot rest. mark_here spot 41 (32 ∷ rest) 1 (omega arith) refl (omega arith) (omega arith),
                      (
                        λ spot rest. mark_here spot 59 (10 ∷ rest) 1 (omega arith) refl (omega arith) (omega arith),
                        (
                          λ spot rest. mark_here spot 44 (32 ∷ rest) 1 (omega arith) refl (omega arith) (omega arith),
                          (
                            λ spot rest. mark_here spot 61 (32 ∷ rest) 1 (omega arith) refl (omega arith) (omega arith),
                            (
                              λ spot rest. mark_here spot 43 (32 ∷ rest) 1 (omega arith) refl (omega arith) (omega arith),
                              (
                                λ spot rest. mark_here spot 45 (32 ∷ rest) 1 (omega arith) refl (omega arith) (omega arith),
                                (
                                  λ spot rest. mark_here spot 42 (32 ∷ rest) 1 (omega arith) refl (omega arith) (omega arith),
                                  (
                                    λ spot rest. mark_here spot 33 (32 ∷ rest) 1 (omega arith) refl (omega arith) (omega arith),
                                    (
                                      λ spot rest. mark_here spot 61 (61 ∷ 32 ∷ rest) 2 (omega arith) refl (omega arith) (omega arith),
                                      (
                                        λ spot rest. mark_here spot 33 (61 ∷ 32 ∷ rest) 2 (omega arith) refl (omega arith) (omega arith),
                                        (
                                          λ spot rest. mark_here spot 60 (32 ∷ rest) 1 (omega arith) refl (omega arith) (omega arith),
                                          (
                                            λ spot rest. mark_here spot 60 (61 ∷ 32 ∷ rest) 2 (omega arith) refl (omega arith) (omega arith),
                                            (
                                              λ spot rest. mark_here spot 62 (32 ∷ rest) 1 (omega arith) refl (omega arith) (omega arith),
                                              (
                                                λ spot rest. mark_here spot 62 (61 ∷ 32 ∷ rest) 2 (omega arith) refl (omega arith) (omega arith),
                                                tt,
                                              ),
                                            ),
                                          ),
                                        ),
                                      ),
                                    ),
                                  ),
                                ),
                              ),
                            ),
                          ),
                        ),
                      ),
                    ),
                  ),
                ),
              ),
            ),
          ),
        ),
      ),
    ),
  ),
)

letter_piece : (word : List ℕ) → is_letter (first word) ≡ true → list_all is_word word ≡ true → (spot : Spot) (rest : List ℕ) → IsPiece spot (word ++ gap word ∷ rest) (Lexeme TokenKind.Name (length word))
letter_piece [] letter all spot rest = absurd (false≢true letter)
letter_piece (b ∷ word) letter all spot rest = name letter (sym (prefix-word is_word (b ∷ word) rest (gap (b ∷ word)) all (no_word (is_in line_ends (b ∷ word)))))

digit_piece : (word : List ℕ) (n : ℕ) → is_digit (first word) ≡ true → list_all is_word word ≡ true → Spells word n → n ≤ max_number → (spot : Spot) (rest : List ℕ) → IsPiece spot (word ++ gap word ∷ rest) (Lexeme TokenKind.Number (length word))
digit_piece [] n digit all spelled small spot rest = absurd (false≢true digit)
digit_piece (b ∷ word) n digit all spelled small spot rest =
    number digit (sym (prefix-word is_word (b ∷ word) rest (gap (b ∷ word)) all (no_word (is_in line_ends (b ∷ word))))) (rw (take-word (b ∷ word) (gap (b ∷ word) ∷ rest)) spelled) small

word_piece : {word : List ℕ} {kind : TokenKind} → IsPrintable word kind → (spot : Spot) (rest : List ℕ) → IsPiece spot (word ++ gap word ∷ rest) (Lexeme kind (length word))
word_piece {word} (name_word letter all) spot rest = letter_piece word letter all spot rest
word_piece {word} (number_word {n = n} digit all spelled small) spot rest = digit_piece word n digit all spelled small spot rest
word_piece {word} (mark_word known) spot rest = all_in IsMarkPiece grammar_marks marks_are word known spot rest

word_read : (spot : Spot) (word : List ℕ) (kind : TokenKind) → IsPrintable word kind → (rest : List ℕ) (tokens : List Token) → Reads (behind (behind spot word) (gap word ∷ [])) rest (Ok tokens) → Reads spot (word ++ gap word ∷ rest) (Ok (token_at spot kind word ∷ tokens))
word_read spot word kind printable rest tokens more =
    let t = take-word word (gap word ∷ rest) in
    let d = drop-word word (gap word ∷ rest) in
    let gapped : Reads (behind spot word) (gap word ∷ rest) (Ok tokens) = past_gap (separator (parts (is_in line_ends word))) more in
    past_token {rest = Ok tokens} (word_piece printable spot rest) (rw (t, d) gapped) (rw t refl)

-- a text of such words is read as tokens that have these words
pub words_are_read : {words : Words} → ArePrintable words → (spot : Spot) → (tokens : List Token) × Reads spot (text_of words) (Ok tokens) × Carries tokens words
unfolding text_of
words_are_read none_printable spot = (token_at spot TokenKind.End [] ∷ [], at_end (end refl), carries_none refl)
words_are_read (one_printable {word = word} {words = words} {kind = kind} printable others) spot =
    let rest = words_are_read others (behind (behind spot word) (gap word ∷ [])) in
    (token_at spot kind word ∷ rest.0, word_read spot word kind printable (text_of words) rest.0 rest.1, carries_one refl printable rest.2)
