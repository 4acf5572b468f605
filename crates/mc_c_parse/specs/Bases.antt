-- What completes a base.
use Rattle.std.specs.Prelude.{ℕ, List, ◌∷◌}
use Rattle.mc_base.specs.declared.text.place.Place.{Place}
use Rattle.mc_base.specs.declared.text.token.Token.{Token}
use Rattle.mc_c_syntax.specs.declared.ast.trees.Base.{Base}
use Rattle.mc_c_syntax.specs.Ast.Names.{Tokens, IsName, name_of}
use Rattle.mc_c_syntax.specs.Ast.Grammar.{IsBase}
use Rattle.mc_c_parse.specs.declared.step.Step.{Step}
use Rattle.mc_c_parse.specs.declared.base.BaseReader.{BaseReader}
use Rattle.mc_c_parse.specs.Threads.{StepIs}

-- a struct's name, after the word `struct` at this place
pub data IsTag (place : Place) : Tokens → Tokens → Base → Type 0 where
  tag : {name : Token} {rest : Tokens} → IsName name → IsTag place (name ∷ rest) rest (Base.Struct place (name_of name))

-- the tokens, up to the rest, complete what the reader has read to this base
abbrev pub CompletesBase : List (List ℕ) → BaseReader → Tokens → Tokens → Base → Type 0
CompletesBase aliases BaseReader.Start tokens rest base = IsBase aliases base tokens rest
CompletesBase aliases (BaseReader.Tag place) tokens rest base = IsTag place tokens rest base

abbrev pub BaseStepIs : List (List ℕ) → BaseReader → Token → Step BaseReader Base → Type 0
BaseStepIs aliases reader token step = StepIs (CompletesBase aliases) (λ base. base) (CompletesBase aliases reader) token step
