-- Tokens that have the words of a text.
use Rattle.std.specs.Prelude.{◌≡◌, ◌≤◌, ℕ, List, [], ◌∷◌, IsTrue}
use Rattle.std.specs.List.{list_all}
use Rattle.mc_base.specs.declared.text.token.Token.{Token}
use Rattle.mc_base.specs.declared.text.token.TokenKind.{TokenKind}
use Rattle.mc_c_syntax.specs.Lex.Bytes.{is_letter, is_digit, is_word}
use Rattle.mc_base.specs.Text.Numbers.{Spells, max_number}
use Rattle.mc_c_syntax.specs.Lex.Pieces.{first}
use Rattle.mc_c_syntax.specs.Ast.Names.{is_in}
use Rattle.mc_c_syntax.specs.Ast.Classes.{grammar_marks}
use Rattle.mc_c_grammar.specs.Spelling.Words.{Words}

-- a word is one token, of this kind: letters and digits after a letter, a number, or a mark of the grammar
pub data IsPrintable : List ℕ → TokenKind → Type 0 where
  name_word : {word : List ℕ} → IsTrue (is_letter (first word)) → IsTrue (list_all is_word word) → IsPrintable word TokenKind.Name
  number_word : {word : List ℕ} {n : ℕ} → IsTrue (is_digit (first word)) → IsTrue (list_all is_word word)
      → Spells word n → n ≤ max_number → IsPrintable word TokenKind.Number
  mark_word : {word : List ℕ} → IsTrue (is_in grammar_marks word) → IsPrintable word TokenKind.Mark

-- each word is one token
pub data ArePrintable : Words → Type 0 where
  none_printable : ArePrintable []
  one_printable : {word : List ℕ} {words : Words} {kind : TokenKind} → IsPrintable word kind → ArePrintable words
      → ArePrintable (word ∷ words)

-- the tokens have these words, one by one, up to the end
pub data Carries : List Token → Words → Type 0 where
  carries_none : {token : Token} → token.kind ≡ TokenKind.End → Carries (token ∷ []) []
  carries_one : {token : Token} {tokens : List Token} {word : List ℕ} {words : Words} → token.text ≡ word
      → IsPrintable word token.kind → Carries tokens words → Carries (token ∷ tokens) (word ∷ words)
