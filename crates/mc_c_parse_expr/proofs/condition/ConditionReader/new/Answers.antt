use Rattle.mc_c_parse_expr.proofs.ConditionStarts.{condition_same}
use Rattle.mc_c_parse_expr.proofs.condition.ConditionReader.new.Goals as goal

pub returns : goal.returns
returns c = condition_same _ _ c.new.ensures c.fresh.ensures
