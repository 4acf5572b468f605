-- What completes an expression of which some tokens are read.
use Rattle.std.specs.Prelude.{◌≡◌, ℕ, List, [], ◌∷◌, Option, Some, None, codes}
use Rattle.mc_base.specs.declared.text.place.Place.{Place}
use Rattle.mc_base.specs.declared.text.token.Token.{Token}
use Rattle.mc_c_syntax.specs.declared.ast.trees.Name.{Name}
use Rattle.mc_c_syntax.specs.declared.ast.trees.Expression.{Expression}
use Rattle.mc_c_syntax.specs.Ast.Trees.{Expr, value, minus, parens, times, plus, difference}
use Rattle.mc_c_syntax.specs.Ast.Views.{expression_of}
use Rattle.mc_c_syntax.specs.Ast.Names.{Tokens}
use Rattle.mc_c_syntax.specs.Ast.Grammar.{Fields, IsUnary, Factors, Terms}
use Rattle.mc_c_syntax.specs.Ast.Readers.{Takes, Finds, IsStuckAt}
use Rattle.mc_c_parse_expr.specs.declared.expression.Summed.{Summed}
use Rattle.mc_c_parse_expr.specs.declared.expression.Pending.{Pending}
use Rattle.mc_c_parse_expr.specs.declared.expression.Group.{Group}
use Rattle.mc_c_parse_expr.specs.declared.expression.Spot.{Spot}
use Rattle.mc_c_parse_expr.specs.declared.expression.ExpressionReader.{ExpressionReader}
use Rattle.mc_c_parse_expr.specs.declared.expression.ExpressionStep.{ExpressionStep}
use Rattle.mc_c_parse_expr.specs.Turns.{InTurn, Marked}
use Rattle.mc_c_parse_expr.specs.Primaries.{CompletesPrimary}

-- nothing waits
abbrev pub nothing : Pending
nothing = record { sum = None; factor = None; minuses = [] }

-- an operand with the `-` signs before it, of which the last comes first
abbrev pub negated : List Place → Expr → Expr
negated [] u = u
negated (place ∷ places) u = negated places (minus place u)

-- a product with what it multiplies
abbrev pub product_of : Option Expression → Expr → Expr
product_of None u = u
product_of (Some a) u = times (expression_of a) u

-- a sum with what it is added to or taken away from
abbrev pub sum_of : Option Summed → Expr → Expr
sum_of None t = t
sum_of (Some (Summed.Plus a)) t = plus (expression_of a) t
sum_of (Some (Summed.Difference a)) t = difference (expression_of a) t

-- after the operand u: what completes its product and its sum, up to what ends that
pub data GoesOn (pending : Pending) (u : Expr) (ends : Expr → Tokens → Tokens → Expr → Type 0) (tokens rest : Tokens)
    (e : Expr) : Type 0 where
  goes_on : {t s : Expr} {mid more : Tokens}
      → Factors (product_of pending.factor (negated pending.minuses u)) tokens t mid
      → Terms (sum_of pending.sum t) mid s more → ends s more rest e → GoesOn pending u ends tokens rest e

-- after the sum s, within these parentheses
abbrev pub Behind : List Group → Expr → Tokens → Tokens → Expr → Type 0
Behind [] s tokens rest e = (rest ≡ tokens) × (e ≡ s)
Behind (g ∷ gs) s tokens rest e = (more : Tokens) × Marked (codes ")") tokens more
    × GoesOn g.outer (parens g.place s) (Behind gs) more rest e

-- after the beginning s of a sum, where no `*` stands
abbrev pub AtSum : List Group → Expr → Tokens → Tokens → Expr → Type 0
AtSum groups s = InTurn (λ tokens rest a. Terms s tokens a rest) (Behind groups)

-- where an operand comes next
abbrev pub AtOperand : List Group → Pending → Tokens → Tokens → Expr → Type 0
AtOperand groups pending = InTurn (λ tokens rest u. IsUnary u tokens rest) (λ u. GoesOn pending u (Behind groups))

abbrev pub AtSpot : Spot → List Group → Pending → Tokens → Tokens → Expr → Type 0
AtSpot Spot.Operand groups pending = AtOperand groups pending
AtSpot (Spot.Primary p) groups pending = InTurn (CompletesPrimary p) (λ u. GoesOn pending u (Behind groups))
AtSpot (Spot.Unary u) groups pending = GoesOn pending (expression_of u) (Behind groups)

-- these tokens, up to the rest, complete what is read to the expression e
abbrev pub CompletesExpression : ExpressionReader → Tokens → Tokens → Expr → Type 0
CompletesExpression r = AtSpot r.spot r.groups r.pending

-- after an operand
abbrev pub BehindOperand : Expr → Tokens → Tokens → Expr → Type 0
BehindOperand u = InTurn (λ tokens rest a. Factors u tokens a rest) (λ a tokens rest e. Terms a tokens e rest)

-- after a name with which an operand begins
abbrev pub BehindName : Name → Tokens → Tokens → Expr → Type 0
BehindName name = InTurn (λ tokens rest l. Fields (record { name = name; fields = [] }) tokens l rest) (λ l. BehindOperand (value l))

-- the marks with which a whole expression goes on
abbrev pub expression_marks : List (List ℕ)
expression_marks = codes "+" ∷ codes "-" ∷ codes "*" ∷ codes "->" ∷ []

-- what a step says of what completes the reader now, and after the token
abbrev pub StepsExpression : (now behind : Tokens → Tokens → Expr → Type 0) → Token → ExpressionStep → Type 0
StepsExpression now behind token ExpressionStep.Taken = Takes expression_marks now behind token
StepsExpression now behind token (ExpressionStep.Found e) = Finds now token (expression_of e)
StepsExpression now behind token ExpressionStep.Stuck = IsStuckAt now token
