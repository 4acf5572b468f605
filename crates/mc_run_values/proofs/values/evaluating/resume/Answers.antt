use Rattle.std.proofs.Common.{◌∙◌, ◌∷◌, ap}
use Rattle.mc_run_values.specs.declared.values.turns.Pending.{Pending}
use Rattle.mc_run_values.proofs.ValuesLemmas.Turning.{operation_applied, operation_fails, right_begins, value_ends}
use Rattle.mc_run_values.proofs.values.evaluating.resume.Goals as goal

pub returns-in-None-clause-turn : goal.returns-in-None-clause-turn
returns-in-None-clause-turn c =
    λ structs values heap lines. value_ends structs values heap c.args.value c.args.stack.now c.pop.new.self lines c.in-None.ensures.0

pub returns-in_ok-push-in-Some-Right-clause-turn : goal.returns-in_ok-push-in-Some-Right-clause-turn
returns-in_ok-push-in-Some-Right-clause-turn c =
    λ structs values heap lines. right_begins structs values heap c.in-Some-Right.operation c.in-Some-Right.second c.args.value c.args.stack.now c.pop.new.self c.push.new.self lines (c.in-Some-Right.ensures ∙ ap (λ (p : Pending). p ∷ c.pop.new.self) c.in-Some-Right.field-0-is) c.in_ok-push-in-Some-Right.ensures

pub returns-in-Ok-clause-turn : goal.returns-in-Ok-clause-turn
returns-in-Ok-clause-turn c =
    λ structs values heap lines. operation_applied structs values heap c.in-Some-Apply.operation c.in-Some-Apply.first c.args.value c.in-Ok.value c.args.stack.now c.pop.new.self lines (c.in-Some-Apply.ensures ∙ ap (λ (p : Pending). p ∷ c.pop.new.self) c.in-Some-Apply.field-0-is) c.in-Ok.ensures

pub returns-in-Err-clause-turn : goal.returns-in-Err-clause-turn
returns-in-Err-clause-turn c =
    λ structs values heap lines. operation_fails structs values heap c.in-Some-Apply.operation c.in-Some-Apply.first c.args.value c.in-Err.kind c.args.stack.now c.pop.new.self c.pop.new.self lines (c.in-Some-Apply.ensures ∙ ap (λ (p : Pending). p ∷ c.pop.new.self) c.in-Some-Apply.field-0-is) c.in-Err.ensures
