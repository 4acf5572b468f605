use Rattle.std.proofs.Common.{refl}
use Rattle.std.specs.Prelude.{codes}
use Rattle.mc_c_parse_expr.proofs.Marks.{clash}
use Rattle.mc_c_parse_expr.proofs.Conditions.{end_finds, close_takes_at}
use Rattle.mc_c_parse_expr.proofs.condition.ConditionReader.close.Goals as goal

pub returns-in_ok-self-in-Some : goal.returns-in_ok-self-in-Some
returns-in_ok-self-in-Some c = close_takes_at c.args.self.now.groups c.pop.new.self _ c.in-Some.field-0 _ c.in_ok-self-in-Some.field-0 c.args.token.now c.in-Some.ensures refl c.requires c.in_ok-self-in-Some.ensures

pub returns-in_ok-condition-in-None : goal.returns-in_ok-condition-in-None
returns-in_ok-condition-in-None c = let e = c.in-None.ensures in end_finds c.args.self.now.groups _ _ c.args.token.now e.0 c.in_ok-condition-in-None.ensures (clash (codes ")") (codes "||") refl refl c.requires)
