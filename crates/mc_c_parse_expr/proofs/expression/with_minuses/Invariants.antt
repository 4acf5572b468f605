use Rattle.std.proofs.Common.{◌≡◌, length}
use Rattle.mc_c_syntax.specs.Ast.Views.{expression_of}
use Rattle.mc_c_parse_expr.specs.Expressions.{negated}
use Rattle.mc_c_parse_expr.proofs.expression.with_minuses.Given as goal

abbrev pub invariant-loop-place : goal.invariant-loop-place
invariant-loop-place l = negated l.minuses (expression_of l.operand) ≡ negated l.initial.minuses (expression_of l.initial.operand)

abbrev pub decreases-loop-place : goal.decreases-loop-place
decreases-loop-place l = length l.minuses
