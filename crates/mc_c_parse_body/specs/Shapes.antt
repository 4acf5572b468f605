-- What completes a shape command.
use Rattle.std.specs.Prelude.{ℕ, List, [], ◌∷◌, ◌++◌}
use Rattle.mc_base.specs.declared.text.place.Place.{Place}
use Rattle.mc_base.specs.declared.text.token.Token.{Token}
use Rattle.mc_c_syntax.specs.declared.ast.class.Class.TheVariants as Class
use Rattle.mc_c_syntax.specs.declared.ast.trees.Name.{Name}
use Rattle.mc_c_syntax.specs.declared.ast.trees.Argument.{Argument}
use Rattle.mc_c_syntax.specs.Ast.Names.{Tokens, IsName, IsNumber, name_of}
use Rattle.mc_c_syntax.specs.Ast.Trees.{Stmt, assume_shape, assert_shape}
use Rattle.mc_c_syntax.specs.Ast.Views.{statement_of}
use Rattle.mc_c_syntax.specs.Ast.Grammar.{IsArgument, MoreArguments}
use Rattle.mc_c_syntax.specs.Ast.Readers.{Takes, Closes, IsStuckAt}
use Rattle.mc_c_parse_expr.specs.Turns.{InTurn}
use Rattle.mc_c_parse_simple.specs.Phrases.{Ended, Next}
use Rattle.mc_c_parse_body.specs.Phrases.{Expects}
use Rattle.mc_c_parse_body.specs.declared.shape.Command.{Command}
use Rattle.mc_c_parse_body.specs.declared.shape.Shape.{Shape}
use Rattle.mc_c_parse_body.specs.declared.shape.Use.{Use}
use Rattle.mc_c_parse_body.specs.declared.shape.ShapeReader.{ShapeReader}
use Rattle.mc_c_parse_body.specs.declared.shape.ShapeStep.{ShapeStep}

-- the statement that a command with these last arguments is
abbrev pub shaped : Shape → List Argument → Stmt
shaped (Shape.Assume place predicate variable) all = assume_shape place predicate variable all
shaped (Shape.Assert place predicate start) all = assert_shape place predicate start all

-- an argument
abbrev pub Arguments : Tokens → Tokens → Argument → Type 0
Arguments tokens rest a = IsArgument a tokens rest

-- the number after a `-`
pub data BehindMinus (place : Place) : Tokens → Tokens → Argument → Type 0 where
  negative : {n : ℕ} {token : Token} {tokens : Tokens} → IsNumber token n
      → BehindMinus place (token ∷ tokens) tokens (Argument.Negative n place)

-- after these last arguments, up to the `)`
abbrev pub BehindArguments : Shape → List Argument → Tokens → Tokens → Stmt → Type 0
BehindArguments shape args = InTurn (λ tokens rest all. MoreArguments args tokens all rest)
    (λ all. Expects (Class.CloseParen ∷ []) (Ended (shaped shape all)))

-- after an argument of this use
abbrev pub BehindUse : Use → Argument → Tokens → Tokens → Stmt → Type 0
BehindUse (Use.Start place predicate) a = BehindArguments (Shape.Assert place predicate a) []
BehindUse (Use.Last shape args) a = BehindArguments shape (args.items ++ a ∷ [])

-- after the `,` that follows the predicate
abbrev pub BehindComma : Command → Place → Name → Tokens → Tokens → Stmt → Type 0
BehindComma Command.Assume place predicate = Next IsName (λ variable. BehindArguments (Shape.Assume place predicate (name_of variable)) [])
BehindComma Command.Assert place predicate = InTurn Arguments (BehindUse (Use.Start place predicate))

-- after the predicate
abbrev pub BehindPredicate : Command → Place → Name → Tokens → Tokens → Stmt → Type 0
BehindPredicate command place predicate = Expects (Class.Comma ∷ []) (BehindComma command place predicate)

-- after the `(` of a command
abbrev pub BehindOpen : Command → Place → Tokens → Tokens → Stmt → Type 0
BehindOpen command place = Next IsName (λ predicate. BehindPredicate command place (name_of predicate))

-- the tokens complete what was read of a command
abbrev pub CompletesShape : ShapeReader → Tokens → Tokens → Stmt → Type 0
CompletesShape (ShapeReader.Predicate command place) = BehindOpen command place
CompletesShape (ShapeReader.Comma command place predicate) = BehindPredicate command place predicate
CompletesShape (ShapeReader.Variable place predicate) = BehindComma Command.Assume place predicate
CompletesShape (ShapeReader.Argument usage) = InTurn Arguments (BehindUse usage)
CompletesShape (ShapeReader.Negative usage place) = InTurn (BehindMinus place) (BehindUse usage)
CompletesShape (ShapeReader.Arguments shape args) = BehindArguments shape args.items

-- what a step of the reader says
abbrev pub IsShapeStep : (Tokens → Tokens → Stmt → Type 0) → Token → ShapeStep → Type 0
IsShapeStep now token (ShapeStep.Taken reader) = Takes [] now (CompletesShape reader) token
IsShapeStep now token (ShapeStep.Closed s) = Closes now token (statement_of s)
IsShapeStep now token ShapeStep.Stuck = IsStuckAt now token
