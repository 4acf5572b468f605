-- What completes a call after its `(`.
use Rattle.std.specs.Prelude.{List, [], ◌∷◌, ◌++◌, codes}
use Rattle.mc_base.specs.declared.text.token.Token.{Token}
use Rattle.mc_c_syntax.specs.declared.ast.trees.Name.{Name}
use Rattle.mc_c_syntax.specs.Ast.Trees.{Expr, CallTree}
use Rattle.mc_c_syntax.specs.Ast.Names.{Tokens, IsMark}
use Rattle.mc_c_syntax.specs.Ast.Grammar.{IsSum, MoreExpressions}
use Rattle.mc_c_syntax.specs.Ast.Readers.{Takes, Closes, IsStuckAt}
use Rattle.mc_c_syntax.specs.Ast.Views.{expressions_of, call_of}
use Rattle.mc_c_parse_expr.specs.Expressions.{CompletesExpression}
use Rattle.mc_c_parse_simple.specs.declared.call.CallReader.{CallReader}
use Rattle.mc_c_parse_simple.specs.declared.call.CallState.{CallState}
use Rattle.mc_c_parse_simple.specs.declared.call.CallStep.{CallStep}
use Rattle.mc_c_parse_expr.specs.Turns.{InTurn}
use Rattle.mc_c_parse_simple.specs.Phrases.{Ended, Next, Either}

-- an expression
abbrev pub Sums : Tokens → Tokens → Expr → Type 0
Sums tokens rest e = IsSum e tokens rest

-- after an argument, with those up to it
pub data BehindArguments (name : Name) (es : List Expr) : Tokens → Tokens → CallTree → Type 0 where
  behind_arguments : {all : List Expr} {after : Token} {tokens rest : Tokens}
      → MoreExpressions es tokens all (after ∷ rest) → IsMark (codes ")") after
      → BehindArguments name es tokens rest (record { function = name; arguments = all })

-- after one argument more
abbrev pub BehindArgument : Name → List Expr → Expr → Tokens → Tokens → CallTree → Type 0
BehindArgument name es e = BehindArguments name (es ++ e ∷ [])

-- what stands in the parentheses of a call, with their end
abbrev pub FirstArgument : Name → List Expr → Tokens → Tokens → CallTree → Type 0
FirstArgument name es = Either (Next (IsMark (codes ")"))
    (λ after. Ended (record { function = name; arguments = es }))) (InTurn Sums (BehindArgument name es))

-- after the `(` of a call
abbrev pub BehindCallParens : Name → Tokens → Tokens → CallTree → Type 0
BehindCallParens name = FirstArgument name []

-- the same, as far as it was read
abbrev pub CompletesArguments : Name → List Expr → CallState → Tokens → Tokens → CallTree → Type 0
CompletesArguments name es CallState.First = FirstArgument name es
CompletesArguments name es (CallState.Argument reader) = InTurn (CompletesExpression reader.value) (BehindArgument name es)

-- the tokens complete what was read of a call
abbrev pub CompletesCall : CallReader → Tokens → Tokens → CallTree → Type 0
CompletesCall reader = CompletesArguments reader.function (expressions_of reader.arguments.items) reader.state

-- what a step of the reader says
abbrev pub IsCallStep : (Tokens → Tokens → CallTree → Type 0) → Token → CallStep → Type 0
IsCallStep now token (CallStep.Taken reader) = Takes [] now (CompletesCall reader) token
IsCallStep now token (CallStep.Closed call) = Closes now token (call_of call)
IsCallStep now token CallStep.Stuck = IsStuckAt now token
