-- What expressions are seen as.
use Rattle.std.proofs.Common.{◌≡◌, ◌∙◌, ℕ, ap, ap₂, sym, Box, Global}
use Rattle.mc_semantics.specs.declared.resolved.program.LeftValue.{LeftValue}
use Rattle.mc_semantics.specs.declared.resolved.program.Expression.TheVariants as Expression
use Rattle.mc_semantics.specs.declared.resolved.program.Expression.{Expression}
use Rattle.mc_semantics.specs.declared.resolved.program.Expression.TheVariants.{rolls-Number, rolls-Input, rolls-Value, rolls-Minus, rolls-Times, rolls-Plus, rolls-Difference}
use Rattle.mc_semantics.specs.declared.resolved.program.Expression.TheFolds.{fold-roll-Expression}
use Rattle.mc_semantics.specs.Resolved.Programs.{Expr, number, input, value, minus, times, plus, difference}
use Rattle.mc_semantics.specs.Resolved.Views.{expression_of, expression_step, left_of}

pub number_seen : (n : ℕ) → expression_of (Expression.Number n) ≡ number n
number_seen n = ap expression_of (sym (rolls-Number n)) ∙ fold-roll-Expression Expr expression_step _

pub input_seen : expression_of Expression.Input ≡ input
input_seen = ap expression_of (sym rolls-Input) ∙ fold-roll-Expression Expr expression_step _

pub value_seen : (l : LeftValue) → expression_of (Expression.Value l) ≡ value (left_of l)
value_seen l = ap expression_of (sym (rolls-Value l)) ∙ fold-roll-Expression Expr expression_step _

-- the parts stand in boxes, which were looked into
pub minus_seen : (e x : Expression) (a : Box Expression Global) → e ≡ Expression.Minus a → x ≡ a.value → expression_of e ≡ minus (expression_of x)
minus_seen e x a is first =
    ap expression_of is
    ∙ (ap expression_of (sym (rolls-Minus a))
    ∙ (fold-roll-Expression Expr expression_step _ ∙ ap (λ (p : Expression). minus (expression_of p)) (sym first)))

pub times_seen : (e x y : Expression) (a b : Box Expression Global) → e ≡ Expression.Times a b → x ≡ a.value → y ≡ b.value → expression_of e ≡ times (expression_of x) (expression_of y)
times_seen e x y a b is first second =
    ap expression_of is
    ∙ (ap expression_of (sym (rolls-Times a b))
    ∙ (fold-roll-Expression Expr expression_step _ ∙ ap₂ (λ (p q : Expression). times (expression_of p) (expression_of q)) (sym first) (sym second)))

pub plus_seen : (e x y : Expression) (a b : Box Expression Global) → e ≡ Expression.Plus a b → x ≡ a.value → y ≡ b.value → expression_of e ≡ plus (expression_of x) (expression_of y)
plus_seen e x y a b is first second =
    ap expression_of is
    ∙ (ap expression_of (sym (rolls-Plus a b))
    ∙ (fold-roll-Expression Expr expression_step _ ∙ ap₂ (λ (p q : Expression). plus (expression_of p) (expression_of q)) (sym first) (sym second)))

pub difference_seen : (e x y : Expression) (a b : Box Expression Global) → e ≡ Expression.Difference a b → x ≡ a.value → y ≡ b.value → expression_of e ≡ difference (expression_of x) (expression_of y)
difference_seen e x y a b is first second =
    ap expression_of is
    ∙ (ap expression_of (sym (rolls-Difference a b))
    ∙ (fold-roll-Expression Expr expression_step _ ∙ ap₂ (λ (p q : Expression). difference (expression_of p) (expression_of q)) (sym first) (sym second)))
