-- What completes the statements of a function, of which some tokens are read.
use Rattle.std.specs.Prelude.{ℕ, List, [], map}
use Rattle.mc_base.specs.declared.text.token.Token.{Token}
use Rattle.mc_c_syntax.specs.Ast.Names.{Tokens}
use Rattle.mc_c_syntax.specs.Ast.Trees.{Stmt}
use Rattle.mc_c_syntax.specs.Ast.Views.{statement_of}
use Rattle.mc_c_syntax.specs.Ast.Readers.{Takes, Closes, IsStuckAt}
use Rattle.mc_c_parse_simple.specs.Phrases.{Ended}
use Rattle.mc_c_parse_body.specs.Phrases.{Expects, expected_of}
use Rattle.mc_c_parse_body.specs.Frames.{InBlock}
use Rattle.mc_c_parse_body.specs.States.{AtState}
use Rattle.mc_c_parse_body.specs.declared.state.BodyReader.{BodyReader}
use Rattle.mc_c_parse_body.specs.declared.state.BodyStep.{BodyStep}

-- the statements of a function with the `}` after them
abbrev pub Bodies : List (List ℕ) → Tokens → Tokens → List Stmt → Type 0
Bodies aliases = InBlock aliases [] Ended

-- the tokens complete what was read of a body
abbrev pub CompletesBody : List (List ℕ) → BodyReader → Tokens → Tokens → List Stmt → Type 0
CompletesBody aliases reader = Expects (expected_of reader.expected) (AtState aliases reader.nest reader.state)

-- what a step of the reader says
abbrev pub IsBodyStep : (Tokens → Tokens → List Stmt → Type 0) → (Tokens → Tokens → List Stmt → Type 0) → Token → BodyStep → Type 0
IsBodyStep now behind token BodyStep.Taken = Takes [] now behind token
IsBodyStep now behind token (BodyStep.Closed ss) = Closes now token (map statement_of ss.items)
IsBodyStep now behind token BodyStep.Stuck = IsStuckAt now token
