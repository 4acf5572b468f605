-- What is answered where a premise is unmet or memory is missing.
use Rattle.std.proofs.Common.{refl, Err}
use Rattle.mc_state.specs.declared.rule.LogicFault.{LogicFault}
use Rattle.mc_state.specs.declared.rule.LogicFault.TheVariants.{Premise, NoMemory}
use Rattle.mc_state.specs.Premises.{Judged, AnswersBy, Changes}
use Rattle.mc_rules_logic.specs.Rule.Answered.{AnswersWithMemory}

-- where nothing was changed, the fault is as it was answered
pub unchanged : {A B : Type 0} (view : B → A) (judged : Judged A) (old : A) (fault : LogicFault) → AnswersBy view judged (Err fault) → Changes judged old old (Err fault)
unchanged view judged old (Premise k) said = (said, refl)
unchanged view judged old NoMemory said = said

-- a fault that is answered is answered with memory
pub refused : {A B : Type 0} (view : B → A) (judged : Judged A) (fault : LogicFault) → AnswersBy view judged (Err fault) → AnswersWithMemory view judged (Err fault)
refused view judged (Premise k) said = said
refused view judged NoMemory said = tt
