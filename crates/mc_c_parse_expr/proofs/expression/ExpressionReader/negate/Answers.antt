use Rattle.mc_c_parse_expr.proofs.Operands.{negate_moves}
use Rattle.mc_c_parse_expr.proofs.expression.ExpressionReader.negate.Goals as goal

pub returns : goal.returns
returns c = negate_moves c.args.self.now.groups c.args.self.now.pending _ c.args.token.now c.requires c.in_ok-push.ensures
