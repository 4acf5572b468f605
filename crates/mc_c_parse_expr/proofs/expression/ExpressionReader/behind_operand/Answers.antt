use Rattle.std.proofs.Common.{subst, sym}
use Rattle.mc_c_syntax.specs.Ast.Readers.{IsSame}
use Rattle.mc_c_syntax.specs.Ast.Views.{expression_of}
use Rattle.mc_c_parse_expr.specs.declared.expression.ExpressionReader.{ExpressionReader}
use Rattle.mc_c_parse_expr.specs.Expressions.{CompletesExpression, BehindOperand}
use Rattle.mc_c_parse_expr.proofs.Starts.{operand_same}
use Rattle.mc_c_parse_expr.proofs.expression.ExpressionReader.behind_operand.Goals as goal

pub returns : goal.returns
returns c = let P : ExpressionReader → Type 0 = λ r. IsSame (CompletesExpression r) (BehindOperand (expression_of c.args.operand)) in subst P (sym c.at_spot.ensures) (operand_same (expression_of c.args.operand))
