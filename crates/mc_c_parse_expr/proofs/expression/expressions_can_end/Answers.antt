use Rattle.mc_c_parse_expr.proofs.Ends.{expression_can_end}
use Rattle.mc_c_parse_expr.proofs.expression.expressions_can_end.Goals as goal

pub returns : goal.returns
returns c = expression_can_end
