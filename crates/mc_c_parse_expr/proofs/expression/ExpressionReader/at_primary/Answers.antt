use Rattle.std.proofs.Common.{subst}
use Rattle.mc_c_parse_expr.specs.declared.primary.PrimaryStep.{PrimaryStep}
use Rattle.mc_c_parse_expr.specs.Primaries.{CompletesPrimary, StepsPrimary, primary_marks}
use Rattle.mc_c_parse_expr.specs.Expressions.{GoesOn, Behind, expression_marks}
use Rattle.mc_c_parse_expr.proofs.Turns.{turn_takes, turn_closes, turn_finds}
use Rattle.mc_c_parse_expr.proofs.Expressions.{primary_ends, steps_same}
use Rattle.mc_c_parse_expr.proofs.expression.ExpressionReader.at_primary.Goals as goal

pub returns-in-Taken : goal.returns-in-Taken
returns-in-Taken c =
    let P : PrimaryStep → Type 0 = StepsPrimary (CompletesPrimary c.args.primary) c.args.token.now in
    turn_takes primary_marks expression_marks (CompletesPrimary c.args.primary) (CompletesPrimary c.in-Taken.primary) (λ u. GoesOn c.args.self.now.pending u (Behind c.args.self.now.groups)) c.args.token.now (subst P c.in-Taken.is c.in_ok-primary.ensures) (primary_ends c.args.self.now.groups c.args.self.now.pending c.args.token.now)

pub returns-in-Closed : goal.returns-in-Closed
returns-in-Closed c =
    let P : PrimaryStep → Type 0 = StepsPrimary (CompletesPrimary c.args.primary) c.args.token.now in
    turn_closes (subst P c.in-Closed.is c.in_ok-primary.ensures)

pub returns-in_ok-step-in-Found : goal.returns-in_ok-step-in-Found
returns-in_ok-step-in-Found c =
    let P : PrimaryStep → Type 0 = StepsPrimary (CompletesPrimary c.args.primary) c.args.token.now in
    steps_same _ _ (turn_finds (subst P c.in-Found.is c.in_ok-primary.ensures)) c.in_ok-step-in-Found.ensures
