use Rattle.std.proofs.Common.{◌∙◌, Option, subst, sym}
use Rattle.mc_c_parse_expr.specs.declared.primary.Primary.{Primary}
use Rattle.mc_c_parse_expr.specs.Conditions.{BeginsDenied}
use Rattle.mc_c_parse_expr.proofs.Classes.{bang_is, before_is}
use Rattle.mc_c_parse_expr.proofs.Turns.{moves_takes}
use Rattle.mc_c_parse_expr.proofs.Conditions.{steps_same}
use Rattle.mc_c_parse_expr.proofs.ConditionOperands.{sum_same, primary_moves, primary_stuck}
use Rattle.mc_c_parse_expr.proofs.condition.ConditionReader.begin_operand.Goals as goal

pub returns-in_ok-step : goal.returns-in_ok-step
returns-in_ok-step c =
    steps_same _ _ (sum_same c.args.self.now.groups c.args.self.now.pending.either c.args.self.now.pending.both c.args.self.now.pending.bangs c.args.token.now (c.is_empty.ensures.0 c.if-is_empty.true) (λ m. c.requires.no_bang (bang_is c.args.class c.args.token.now m c.requires.class)) (λ m. c.requires.no_parens (before_is c.args.class c.args.token.now m c.requires.class))) c.in_ok-step.ensures

pub returns-in-Some : goal.returns-in-Some
returns-in-Some c =
    let B : Option Primary → Type 0 = BeginsDenied c.args.token.now in
    moves_takes (primary_moves c.args.self.now.groups c.args.self.now.pending c.in-Some.primary c.args.token.now (λ e. let t = c.is_empty.ensures.1 e in let f = c.if-is_empty.false in let both = sym t ∙ f in cc) (subst B c.in-Some.is c.in_ok-primary.ensures))

pub returns-in-None : goal.returns-in-None
returns-in-None c =
    let B : Option Primary → Type 0 = BeginsDenied c.args.token.now in
    primary_stuck c.args.self.now.groups c.args.self.now.pending c.args.token.now (λ e. let t = c.is_empty.ensures.1 e in let f = c.if-is_empty.false in let both = sym t ∙ f in cc) (subst B c.in-None.is c.in_ok-primary.ensures)
