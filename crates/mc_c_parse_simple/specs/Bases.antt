-- What completes a base: `int`, `struct S`, or a name that a typedef introduced.
use Rattle.std.specs.Prelude.{ℕ, List, []}
use Rattle.mc_base.specs.declared.text.place.Place.{Place}
use Rattle.mc_base.specs.declared.text.token.Token.{Token}
use Rattle.mc_c_syntax.specs.declared.ast.trees.Base.{Base}
use Rattle.mc_c_syntax.specs.Ast.Names.{Tokens, IsName, name_of}
use Rattle.mc_c_syntax.specs.Ast.Grammar.{IsBase}
use Rattle.mc_c_syntax.specs.Ast.Readers.{Takes, Closes, IsStuckAt}
use Rattle.mc_c_parse_simple.specs.declared.base.BaseReader.{BaseReader}
use Rattle.mc_c_parse_simple.specs.declared.base.BaseStep.{BaseStep}
use Rattle.mc_c_parse_simple.specs.Phrases.{Ended, Next}

-- a base
abbrev pub Bases : List (List ℕ) → Tokens → Tokens → Base → Type 0
Bases aliases tokens rest base = IsBase aliases base tokens rest

-- the name after `struct`
abbrev pub BehindStruct : Place → Tokens → Tokens → Base → Type 0
BehindStruct place = Next IsName (λ name. Ended (Base.Struct place (name_of name)))

-- the tokens complete what was read of a base
abbrev pub CompletesBase : List (List ℕ) → BaseReader → Tokens → Tokens → Base → Type 0
CompletesBase aliases BaseReader.Start = Bases aliases
CompletesBase aliases (BaseReader.Struct place) = BehindStruct place

-- what a step of the reader says
abbrev pub IsBaseStep : List (List ℕ) → (Tokens → Tokens → Base → Type 0) → Token → BaseStep → Type 0
IsBaseStep aliases now token (BaseStep.Taken reader) = Takes [] now (CompletesBase aliases reader) token
IsBaseStep aliases now token (BaseStep.Closed base) = Closes now token base
IsBaseStep aliases now token BaseStep.Stuck = IsStuckAt now token
