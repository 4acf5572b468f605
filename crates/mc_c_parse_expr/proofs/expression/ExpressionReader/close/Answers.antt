use Rattle.std.proofs.Common.{refl}
use Rattle.mc_c_parse_expr.proofs.Expressions.{close_finds_at, close_takes_at}
use Rattle.mc_c_parse_expr.proofs.expression.ExpressionReader.close.Goals as goal

pub returns-in_ok-parens_of-in-Some : goal.returns-in_ok-parens_of-in-Some
returns-in_ok-parens_of-in-Some c = close_takes_at c.args.self.now.groups c.pop.new.self _ c.in-Some.field-0 _ _ c.args.token.now c.in-Some.ensures refl c.in_ok-parens_of-in-Some.ensures c.requires

pub returns-in-None : goal.returns-in-None
returns-in-None c = let e = c.in-None.ensures in close_finds_at c.args.self.now.groups _ c.args.token.now e.0 c.requires
