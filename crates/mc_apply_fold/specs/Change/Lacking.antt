-- Changes that take memory to decide.
use Rattle.std.specs.Prelude.{◌≡◌, Result, Ok, Err}
use Rattle.mc_state.specs.declared.rule.LogicFault.{LogicFault}
use Rattle.mc_state.specs.declared.rule.LogicFault.TheVariants.{Premise, NoMemory}
use Rattle.mc_state.specs.Premises.{Judged}

-- a function changes a value as is judged, or leaves it as it was, also where there is no memory to decide it
abbrev pub ChangesWithMemory : {A : Type 0} → Judged A → A → A → Result Unit LogicFault → Type 0
ChangesWithMemory judged old new (Ok done) = judged ≡ Ok new
ChangesWithMemory judged old new (Err (Premise k)) = (judged ≡ Err k) × (new ≡ old)
ChangesWithMemory judged old new (Err NoMemory) = new ≡ old
