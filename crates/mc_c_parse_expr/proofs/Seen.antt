-- What expressions and conditions are seen as.
use Rattle.std.proofs.Common.{◌≡◌, ℕ, ap, sym, ◌∙◌}
use Rattle.mc_base.specs.declared.text.place.Place.{Place}
use Rattle.mc_c_syntax.specs.declared.ast.trees.LeftValue.{LeftValue}
use Rattle.mc_c_syntax.specs.declared.ast.trees.Expression.{Expression}
use Rattle.mc_c_syntax.specs.declared.ast.trees.Expression.TheVariants.{rolls-Input, rolls-Null, rolls-Number, rolls-Value}
use Rattle.mc_c_syntax.specs.declared.ast.trees.Expression.TheFolds.{fold-roll-Expression}
use Rattle.mc_c_syntax.specs.Ast.Trees.{Expr, number, null, input, value}
use Rattle.mc_c_syntax.specs.Ast.Views.{expression_of, expression_step, left_of}

pub input_seen : (p : Place) → expression_of (Expression.Input p) ≡ input p
input_seen p = ap expression_of (sym (rolls-Input p)) ∙ fold-roll-Expression Expr expression_step _

pub null_seen : (p : Place) → expression_of (Expression.Null p) ≡ null p
null_seen p = ap expression_of (sym (rolls-Null p)) ∙ fold-roll-Expression Expr expression_step _

pub number_seen : (n : ℕ) (p : Place) → expression_of (Expression.Number n p) ≡ number n p
number_seen n p = ap expression_of (sym (rolls-Number n p)) ∙ fold-roll-Expression Expr expression_step _

pub value_seen : (l : LeftValue) → expression_of (Expression.Value l) ≡ value (left_of l)
value_seen l = ap expression_of (sym (rolls-Value l)) ∙ fold-roll-Expression Expr expression_step _
