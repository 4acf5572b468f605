use Rattle.mc_c_parse_expr.proofs.ConditionOperands.{deny_moves}
use Rattle.mc_c_parse_expr.proofs.condition.ConditionReader.deny.Goals as goal

pub returns : goal.returns
returns c = deny_moves c.args.self.now.groups c.args.self.now.pending _ c.args.token.now c.requires c.in_ok-push.ensures
