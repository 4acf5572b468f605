use Rattle.std.proofs.Common.{◌∙◌, ap, sym}
use Rattle.mc_c_parse_expr.specs.Conditions.{whole_of}
use Rattle.mc_c_parse_expr.proofs.Enclosed.{sum_enclosed, proper_enclosed, denied_enclosed}
use Rattle.mc_c_parse_expr.proofs.condition.enclosed.Goals as goal

pub returns-in_ok-operand-in-Ok : goal.returns-in_ok-operand-in-Ok
returns-in_ok-operand-in-Ok c = sum_enclosed c.args.bangs.now c.args.place (whole_of c.args.whole) _ _ c.behind_operand.result (c.is_empty.ensures.0 c.if-is_empty.true) c.in-Ok.ensures c.in_ok-operand-in-Ok.ensures c.behind_operand.ensures

pub returns-in_ok-condition-in-Err : goal.returns-in_ok-condition-in-Err
returns-in_ok-condition-in-Err c = let e = c.in-Err.ensures in proper_enclosed c.args.bangs.now c.args.place (whole_of c.args.whole) c.in_ok-condition-in-Err.condition (c.is_empty.ensures.0 c.if-is_empty.true) e.1 (c.in_ok-condition-in-Err.ensures ∙ ap whole_of e.0)

pub returns-in_ok-condition : goal.returns-in_ok-condition
returns-in_ok-condition c = denied_enclosed c.args.bangs.now c.args.place (whole_of c.args.whole) c.in_ok-condition.condition (λ e. let t = c.is_empty.ensures.1 e in let f = c.if-is_empty.false in let both = sym t ∙ f in cc) c.in_ok-condition.ensures
