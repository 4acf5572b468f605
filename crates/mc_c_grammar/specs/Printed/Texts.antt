-- Texts and the programs that they are read as.
use Rattle.std.specs.Prelude.{ℕ, List, [], Ok}
use Rattle.mc_base.specs.declared.text.token.Token.{Token}
use Rattle.mc_c_syntax.specs.Lex.Readings.{Lexes}
use Rattle.mc_c_syntax.specs.Ast.Grammar.{IsUnit}
use Rattle.mc_c_syntax.specs.Ast.Trees.{UnitTree}
use Rattle.mc_c_grammar.specs.Spelling.Words.{text_of, unit_words}

-- the text is read as this program: its tokens spell it
pub record IsReadAs (text : List ℕ) (unit : UnitTree) : Type 0 where
  pub tokens : List Token
  pub lexed : Lexes text (Ok tokens)
  pub spelled : IsUnit unit tokens

-- the text that is printed of a program
abbrev pub printed : UnitTree → List ℕ
printed unit = text_of (unit_words unit [])
