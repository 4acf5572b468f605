use Rattle.mc_c_parse_expr.proofs.Turns.{moves_takes}
use Rattle.mc_c_parse_expr.proofs.condition.ConditionReader.at_operand.Goals as goal

pub returns-in_ok-deny-in-Bang : goal.returns-in_ok-deny-in-Bang
returns-in_ok-deny-in-Bang c = moves_takes c.in_ok-deny-in-Bang.ensures

pub returns-in_ok-open_group-in-OpenParen : goal.returns-in_ok-open_group-in-OpenParen
returns-in_ok-open_group-in-OpenParen c = moves_takes c.in_ok-open_group-in-OpenParen.ensures
