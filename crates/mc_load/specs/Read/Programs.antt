-- What a text is read as.
use Rattle.std.specs.Prelude.{ℕ, List, Ok}
use Rattle.mc_base.specs.declared.text.token.Token.{Token}
use Rattle.mc_c_syntax.specs.Lex.Readings.{Lexes}
use Rattle.mc_c_syntax.specs.Ast.Trees.{UnitTree}
use Rattle.mc_c_syntax.specs.Ast.Grammar.{IsUnit}
use Rattle.mc_c_types.specs.Typing.{IsWellTyped}

-- the text has these tokens, and they spell this tree
pub record IsReadAs (text : List ℕ) (unit : UnitTree) : Type 0 where
  pub tokens : List Token
  pub lexes : Lexes text (Ok tokens)
  pub spells : IsUnit unit tokens

-- the text is a program for this entry, and this is its tree
pub record IsProgramOf (text entry : List ℕ) (unit : UnitTree) : Type 0 where
  pub read : IsReadAs text unit
  pub typed : IsWellTyped unit entry
