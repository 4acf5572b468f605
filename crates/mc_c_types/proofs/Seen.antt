-- What expressions are seen as.
use Rattle.std.proofs.Common.{◌≡◌, refl, ap, sym, ◌∙◌, Box, Global, box_value}
use Rattle.mc_base.specs.declared.text.place.Place.{Place}
use Rattle.mc_c_syntax.specs.declared.ast.trees.LeftValue.{LeftValue}
use Rattle.mc_c_syntax.specs.declared.ast.trees.Expression.{Expression}
use Rattle.mc_c_syntax.specs.declared.ast.trees.Expression.TheVariants as Expression
use Rattle.mc_c_syntax.specs.declared.ast.trees.Expression.TheVariants.{rolls-Value, rolls-Minus, rolls-Parens, rolls-Times, rolls-Plus, rolls-Difference}
use Rattle.mc_c_syntax.specs.declared.ast.trees.Expression.TheFolds.{fold-roll-Expression}
use Rattle.mc_c_syntax.specs.declared.ast.trees.Comparison.{Comparison}
use Rattle.mc_c_syntax.specs.declared.ast.trees.Condition.{Condition}
use Rattle.mc_c_syntax.specs.declared.ast.trees.Condition.TheVariants as Condition
use Rattle.mc_c_syntax.specs.declared.ast.trees.Condition.TheVariants.{rolls-Plain, rolls-Compare, rolls-Not, rolls-Both, rolls-Either}
use Rattle.mc_c_syntax.specs.declared.ast.trees.Condition.TheFolds.{fold-roll-Condition}
use Rattle.mc_c_syntax.specs.Ast.Trees.{Cond, plain, compare, negation, enclosed, both, either, Expr, value, minus, parens, times, plus, difference}
use Rattle.mc_c_syntax.specs.Ast.Views.{condition_of, condition_step, expression_of, expression_step, left_of}

pub value_seen : (l : LeftValue) → expression_of (Expression.Value l) ≡ value (left_of l)
value_seen l = ap expression_of (sym (rolls-Value l)) ∙ fold-roll-Expression Expr expression_step _

pub minus_seen : (p : Place) (e : Box Expression Global) → expression_of (Expression.Minus p e) ≡ minus p (expression_of e.value)
minus_seen p e = ap expression_of (sym (rolls-Minus p e)) ∙ fold-roll-Expression Expr expression_step _

pub parens_seen : (p : Place) (e : Box Expression Global) → expression_of (Expression.Parens p e) ≡ parens p (expression_of e.value)
parens_seen p e = ap expression_of (sym (rolls-Parens p e)) ∙ fold-roll-Expression Expr expression_step _

pub times_seen : (a b : Box Expression Global) → expression_of (Expression.Times a b) ≡ times (expression_of a.value) (expression_of b.value)
times_seen a b = ap expression_of (sym (rolls-Times a b)) ∙ fold-roll-Expression Expr expression_step _

pub plus_seen : (a b : Box Expression Global) → expression_of (Expression.Plus a b) ≡ plus (expression_of a.value) (expression_of b.value)
plus_seen a b = ap expression_of (sym (rolls-Plus a b)) ∙ fold-roll-Expression Expr expression_step _

pub difference_seen : (a b : Box Expression Global) → expression_of (Expression.Difference a b) ≡ difference (expression_of a.value) (expression_of b.value)
difference_seen a b = ap expression_of (sym (rolls-Difference a b)) ∙ fold-roll-Expression Expr expression_step _

-- ---- conditions
pub plain_seen : (e : Expression) → condition_of (Condition.Plain e) ≡ plain (expression_of e)
plain_seen e = ap condition_of (sym (rolls-Plain e)) ∙ fold-roll-Condition Cond condition_step _

pub compare_seen : (c : Comparison) (a b : Box Expression Global) → condition_of (Condition.Compare c a b) ≡ compare c (expression_of a.value) (expression_of b.value)
compare_seen c a b = ap condition_of (sym (rolls-Compare c a b)) ∙ fold-roll-Condition Cond condition_step _

pub not_seen : (p : Place) (c : Box Condition Global) → condition_of (Condition.Not p c) ≡ negation p (condition_of c.value)
not_seen p c = ap condition_of (sym (rolls-Not p c)) ∙ fold-roll-Condition Cond condition_step _

pub enclosed_seen : (p : Place) (c : Box Condition Global) → condition_of (Condition.Parens p c) ≡ enclosed p (condition_of c.value)
enclosed_seen p c = ap condition_of (sym (package.Rattle.mc_c_syntax.specs.declared.ast.trees.Condition.TheVariants.rolls-Parens p c)) ∙ fold-roll-Condition Cond condition_step _

pub both_seen : (a b : Box Condition Global) → condition_of (Condition.Both a b) ≡ both (condition_of a.value) (condition_of b.value)
both_seen a b = ap condition_of (sym (rolls-Both a b)) ∙ fold-roll-Condition Cond condition_step _

pub either_seen : (a b : Box Condition Global) → condition_of (Condition.Either a b) ≡ either (condition_of a.value) (condition_of b.value)
either_seen a b = ap condition_of (sym (rolls-Either a b)) ∙ fold-roll-Condition Cond condition_step _
