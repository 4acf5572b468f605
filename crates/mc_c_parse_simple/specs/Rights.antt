-- What completes the right side of an assignment.
use Rattle.std.specs.Prelude.{ℕ, List, [], ◌∷◌, ◌++◌, Some, None, codes}
use Rattle.mc_base.specs.declared.text.place.Place.{Place}
use Rattle.mc_base.specs.declared.text.token.Token.{Token}
use Rattle.mc_c_syntax.specs.declared.ast.trees.Name.{Name}
use Rattle.mc_c_syntax.specs.declared.ast.trees.Base.{Base}
use Rattle.mc_c_syntax.specs.declared.ast.trees.Malloc.{Malloc}
use Rattle.mc_c_syntax.specs.Ast.Trees.{Expr, value, parens, times, CallTree, Right, expression, result_of, allocation}
use Rattle.mc_c_syntax.specs.Ast.Names.{Tokens, IsMark}
use Rattle.mc_c_syntax.specs.Ast.Grammar.{IsUnary, IsRight}
use Rattle.mc_c_syntax.specs.Ast.Readers.{Takes, Finds, IsStuckAt}
use Rattle.mc_c_syntax.specs.Ast.Views.{right_of}
use Rattle.mc_c_parse_expr.specs.Expressions.{CompletesExpression, BehindName, BehindOperand, expression_marks}
use Rattle.mc_c_parse_simple.specs.declared.right.RightReader.{RightReader}
use Rattle.mc_c_parse_simple.specs.declared.right.RightState.{RightState}
use Rattle.mc_c_parse_simple.specs.declared.right.RightMove.{RightMove}
use Rattle.mc_c_parse_simple.specs.declared.right.RightStep.{RightStep}
use Rattle.mc_c_parse_expr.specs.Turns.{InTurn}
use Rattle.mc_c_parse_simple.specs.Phrases.{Ended, Next, Either}
use Rattle.mc_c_parse_simple.specs.Allocations.{BehindCast, ClosingCast, BehindCastBase, InCast, CompletesAllocation}
use Rattle.mc_c_parse_simple.specs.Calls.{Sums, BehindCallParens, CompletesCall}

-- the marks and words with which a complete right side can go on: a name may be called, and `(T)` may be a cast
abbrev pub right_marks : List (List ℕ)
right_marks = expression_marks ++ codes "(" ∷ codes "malloc" ∷ []

-- a right side
abbrev pub Rights : List (List ℕ) → Tokens → Tokens → Right → Type 0
Rights aliases tokens rest right = IsRight aliases right tokens rest

-- the expression, call or allocation is the right side
abbrev pub AsExpression : (Tokens → Tokens → Expr → Type 0) → Tokens → Tokens → Right → Type 0
AsExpression inner = InTurn inner (λ e. Ended (expression e))

abbrev pub AsCall : (Tokens → Tokens → CallTree → Type 0) → Tokens → Tokens → Right → Type 0
AsCall inner = InTurn inner (λ call. Ended (result_of call))

abbrev pub AsAllocation : (Tokens → Tokens → Malloc → Type 0) → Tokens → Tokens → Right → Type 0
AsAllocation inner = InTurn inner (λ malloc. Ended (allocation malloc))

-- the `)` of parentheses with which an expression begins, and what follows them
abbrev pub ClosingParens : Place → Expr → Tokens → Tokens → Expr → Type 0
ClosingParens place e = Next (IsMark (codes ")")) (λ after. BehindOperand (parens place e))

-- what stands in the parentheses with which an expression begins, and what follows them
abbrev pub InParens : Place → (Tokens → Tokens → Expr → Type 0) → Tokens → Tokens → Expr → Type 0
InParens place inner = InTurn inner (ClosingParens place)

-- a name alone
abbrev pub named : Name → Expr
named name = value (record { name = name; fields = [] })

-- after a name and a `*`
abbrev pub BehindTimes : Name → Tokens → Tokens → Expr → Type 0
BehindTimes name = InTurn (λ tokens rest e. IsUnary e tokens rest) (λ e. BehindOperand (times (named name) e))

-- after a name with which a right side begins
abbrev pub BehindRightName : Name → Tokens → Tokens → Right → Type 0
BehindRightName name = Either (AsExpression (BehindName name)) (Next (IsMark (codes "(")) (λ before. AsCall (BehindCallParens name)))

-- after a `(` with which a right side begins
abbrev pub BehindRightParens : List (List ℕ) → Place → Tokens → Tokens → Right → Type 0
BehindRightParens aliases place = Either (AsExpression (InParens place Sums)) (AsAllocation (InCast aliases place))

-- after a `(` and the name of a type
abbrev pub BehindParensAlias : List (List ℕ) → Place → Name → Tokens → Tokens → Right → Type 0
BehindParensAlias aliases place name = Either (AsExpression (InParens place (BehindName name)))
    (AsAllocation (BehindCastBase aliases place (Base.Alias name)))

-- after a `(`, the name of a type and a `*`
abbrev pub BehindParensStar : List (List ℕ) → Place → Name → Place → Tokens → Tokens → Right → Type 0
BehindParensStar aliases place name star = Either (AsExpression (InParens place (BehindTimes name)))
    (AsAllocation (ClosingCast aliases (record { place = place; base = Base.Alias name; pointer = Some star })))

-- after the name of a type in parentheses
abbrev pub BehindEnclosed : List (List ℕ) → Place → Name → Tokens → Tokens → Right → Type 0
BehindEnclosed aliases place name = Either (AsExpression (BehindOperand (parens place (named name))))
    (AsAllocation (BehindCast aliases (record { place = place; base = Base.Alias name; pointer = None })))

-- the tokens complete what was read of a right side
abbrev pub CompletesRightState : List (List ℕ) → RightState → Tokens → Tokens → Right → Type 0
CompletesRightState aliases RightState.Start = Rights aliases
CompletesRightState aliases (RightState.Named name) = BehindRightName name
CompletesRightState aliases (RightState.Opened place) = BehindRightParens aliases place
CompletesRightState aliases (RightState.OpenedAlias place name) = BehindParensAlias aliases place name
CompletesRightState aliases (RightState.OpenedStar place name star) = BehindParensStar aliases place name star
CompletesRightState aliases (RightState.Enclosed place name) = BehindEnclosed aliases place name
CompletesRightState aliases (RightState.Parens place reader) = AsExpression (InParens place (CompletesExpression reader.value))
CompletesRightState aliases (RightState.Sum reader) = AsExpression (CompletesExpression reader.value)
CompletesRightState aliases (RightState.Call reader) = AsCall (CompletesCall reader)
CompletesRightState aliases (RightState.Allocation reader) = AsAllocation (CompletesAllocation aliases reader)
CompletesRightState aliases (RightState.Done right) = Ended (right_of right)

abbrev pub CompletesRight : List (List ℕ) → RightReader → Tokens → Tokens → Right → Type 0
CompletesRight aliases reader = CompletesRightState aliases reader.state

-- what is read is a sum, or the beginning of one
abbrev pub IsInSumState : RightState → Type 0
IsInSumState RightState.Start = ⊥
IsInSumState (RightState.Named name) = ⊥
IsInSumState (RightState.Opened place) = ⊥
IsInSumState (RightState.OpenedAlias place name) = ⊥
IsInSumState (RightState.OpenedStar place name star) = ⊥
IsInSumState (RightState.Enclosed place name) = ⊥
IsInSumState (RightState.Parens place reader) = ⊥
IsInSumState (RightState.Sum reader) = Unit {0}
IsInSumState (RightState.Call reader) = ⊥
IsInSumState (RightState.Allocation reader) = ⊥
IsInSumState (RightState.Done right) = ⊥

abbrev pub IsInSum : RightReader → Type 0
IsInSum reader = IsInSumState reader.state

-- what a step by value says
abbrev pub IsRightMove : List (List ℕ) → (Tokens → Tokens → Right → Type 0) → Token → RightMove → Type 0
IsRightMove aliases now token (RightMove.Taken reader) = Takes right_marks now (CompletesRight aliases reader) token
IsRightMove aliases now token (RightMove.Found right) = Finds now token (right_of right)
IsRightMove aliases now token RightMove.Stuck = IsStuckAt now token

-- what a step of the reader says, of what completes it now and after the token
abbrev pub IsRightStep : (Tokens → Tokens → Right → Type 0) → (Tokens → Tokens → Right → Type 0) → Token → RightStep → Type 0
IsRightStep now behind token RightStep.Taken = Takes right_marks now behind token
IsRightStep now behind token (RightStep.Found right) = Finds now token (right_of right)
IsRightStep now behind token RightStep.Stuck = IsStuckAt now token
