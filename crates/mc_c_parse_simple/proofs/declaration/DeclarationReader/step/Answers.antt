use Rattle.std.proofs.Common.{refl, subst}
use Rattle.mc_c_parse_simple.specs.Rights.{CompletesRight, IsRightStep}
use Rattle.mc_c_parse_simple.proofs.Phrases.{then_takes, then_finds, then_stuck}
use Rattle.mc_c_parse_simple.proofs.Declarations.{declaration_step_along, initials_end, not_in_initial, put_is}
use Rattle.mc_c_parse_simple.proofs.declaration.DeclarationReader.step.Goals as goal

pub returns-in-Taken : goal.returns-in-Taken
returns-in-Taken c = λ aliases e. rw c.in-Value.is (then_takes (subst (λ s. IsRightStep (CompletesRight aliases c.in-Value.reader) (CompletesRight aliases c.step.new.self) c.args.token.now s) c.in-Taken.is (c.in_ok-step-in-Value.ensures aliases e)) (λ x tokens rest y b marks. absurd (initials_end aliases _ _ b marks)))

pub returns-in_ok-step-in-Found : goal.returns-in_ok-step-in-Found
returns-in_ok-step-in-Found c = λ aliases e.
    let found = subst (λ s. IsRightStep (CompletesRight aliases c.in-Value.reader) (CompletesRight aliases c.step.new.self) c.args.token.now s) c.in-Found.is (c.in_ok-step-in-Value.ensures aliases e) in
    let behind = rw c.taken.ensures at (c.in_ok-step-in-Found.ensures c.in-Value.field-0 c.step.new.self) in
    put_is aliases _ c.args.token.now _ c.put.new.self c.put.result c.put.ensures (rw c.in-Value.is (declaration_step_along aliases _ (then_finds found) (behind refl aliases)))

pub returns-in-Stuck : goal.returns-in-Stuck
returns-in-Stuck c = λ aliases e. rw c.in-Value.is (then_stuck (subst (λ s. IsRightStep (CompletesRight aliases c.in-Value.reader) (CompletesRight aliases c.step.new.self) c.args.token.now s) c.in-Stuck.is (c.in_ok-step-in-Value.ensures aliases e)))

pub step_beside_values-requires : goal.step_beside_values-requires
step_beside_values-requires c = record { class = c.requires; beside = not_in_initial c.args.self.now.state c.in_default.not-Value }

pub returns-in_default : goal.returns-in_default
returns-in_default c = λ aliases e. c.step_beside_values.ensures aliases
