-- What a step answers, beside what is judged.
use Rattle.std.specs.Prelude.{◌≡◌, ℕ, true, List, [], ◌∷◌, Result, Ok, Err, is_ok}
use Rattle.mc_state.specs.Premises.{Judged}
use Rattle.mc_state.specs.State.{State}
use Rattle.mc_rules_steps.specs.Next.{Next}
use Rattle.mc_apply_steps.specs.declared.step.next.Next.{Next as Branch}
use Rattle.mc_apply_steps.specs.declared.step.next.Stepped.{Stepped}
use Rattle.mc_apply_steps.specs.declared.step.next.Stepped.TheVariants.{Ended, Moved, Branched}
use Rattle.mc_apply_steps.specs.declared.step.next.Refused.{Refused}
use Rattle.mc_apply_steps.specs.declared.step.next.Refused.TheVariants.{Premise, NoMemory}

-- a branch as rules speak of it
abbrev pub seen : Branch → Next
seen b = record { point = b.point; goal = b.goal; state = b.state }

-- the successors, in order
abbrev pub successors : Stepped → List Next
successors Ended = []
successors (Moved b) = seen b ∷ []
successors (Branched b c) = seen b ∷ seen c ∷ []

-- a step from a state answers the successors that are judged, or the first unmet premise with the state as it was; only
-- where there are successors may memory be missing
abbrev pub Steps : Judged (List Next) → State → Result Stepped Refused → Type 0
Steps judged s (Ok stepped) = judged ≡ Ok (successors stepped)
Steps judged s (Err (Premise k same)) = (judged ≡ Err k) × (same ≡ s)
Steps judged s (Err NoMemory) = is_ok judged ≡ true
