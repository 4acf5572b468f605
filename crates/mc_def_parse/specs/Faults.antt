-- The first token that no definition file can have where it stands.
use Rattle.std.specs.Prelude.{◌≡◌, List, [], ◌∷◌, ◌++◌}
use Rattle.mc_base.specs.declared.text.place.Place.{Place}
use Rattle.mc_base.specs.declared.text.token.Token.{Token}
use Rattle.mc_c_syntax.specs.Ast.Names.{Tokens}
use Rattle.mc_def_parse.specs.declared.tree.DefText.{DefText}
use Rattle.mc_def_parse.specs.Grammar.{IsFile}
use Rattle.mc_def_parse.specs.declared.fault.Cause.TheVariants as Cause
use Rattle.mc_def_parse.specs.declared.fault.DefFault.{DefFault}
use Rattle.mc_def_parse.specs.declared.fault.DefFault.TheVariants.{Refused, NoMemory}

-- the tokens of some file begin with these
pub record CanBegin (tokens : Tokens) : Type 0 where
  pub more : Tokens
  pub file : List DefText
  pub spells : IsFile file (tokens ++ more)

-- the tokens go on with this one after those that some file begins with, and no file does
pub record StopsAt (tokens before : Tokens) (token : Token) : Type 0 where
  pub after : Tokens
  pub split : tokens ≡ before ++ token ∷ after
  pub viable : CanBegin before
  pub stuck : CanBegin (before ++ token ∷ []) → ⊥

-- the first token that no file can have there stands at this place
abbrev pub IsStop : Tokens → Place → Type 0
IsStop tokens place = (before : Tokens) × (token : Token) × StopsAt tokens before token × (place ≡ token.place)

-- the tokens spell this file, and no other
pub record IsOnlyFile (file : List DefText) (tokens : Tokens) : Type 0 where
  pub spells : IsFile file tokens
  pub only : (other : List DefText) → IsFile other tokens → other ≡ file

-- the fault of the first token that no file can have there; memory may always be missing
abbrev pub IsSyntaxFault : Tokens → DefFault → Type 0
IsSyntaxFault tokens (Refused refusal) = (refusal.cause ≡ Cause.Syntax) × IsStop tokens refusal.place
IsSyntaxFault tokens NoMemory = Unit {0}
