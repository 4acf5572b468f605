use Rattle.mc_c_parse_expr.proofs.ConditionEnds.{condition_can_end}
use Rattle.mc_c_parse_expr.proofs.condition.conditions_can_end.Goals as goal

pub returns : goal.returns
returns c = condition_can_end
