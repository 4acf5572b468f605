-- What rules of logic answer.
use Rattle.std.specs.Prelude.{◌≡◌, Result, Ok, Err}
use Rattle.mc_state.specs.declared.rule.LogicFault.{LogicFault}
use Rattle.mc_state.specs.declared.rule.LogicFault.TheVariants.{Premise, NoMemory}
use Rattle.mc_state.specs.Premises.{Judged}

-- a function answers what is judged, where there is memory to decide it: a premise may take memory itself
abbrev pub AnswersWithMemory : {A B : Type 0} → (B → A) → Judged A → Result B LogicFault → Type 0
AnswersWithMemory view judged (Ok b) = judged ≡ Ok (view b)
AnswersWithMemory view judged (Err (Premise k)) = judged ≡ Err k
AnswersWithMemory view judged (Err NoMemory) = Unit {0}
