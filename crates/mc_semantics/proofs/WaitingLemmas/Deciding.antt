-- What is not decided is taken as decided where only absurdity is to follow.
use Rattle.std.proofs.Common.{◌⊎◌, List, inl, inr}
use Rattle.mc_flow.specs.Runs.{Outcome, next, last, ended, stopped, fault}
use Rattle.mc_flow.specs.Heap.Choices.{Choice}
use Rattle.mc_semantics.specs.Waiting.Requests.{Request, Waits}
use Rattle.mc_semantics.specs.Waiting.Runs.{Machine, MakesStep, HasEnded}

pub either_way : (P : Type 0) → (P ⊎ (¬ P) → ⊥) → ⊥
either_way P k = k (inr (λ p. k (inl p)))

-- a step, or waiting for a choice
abbrev pub StepsOr : {R : Type 0} → (R → Type 0) → (Request → List Choice → Type 0) → Type 0
StepsOr {R} Does Asks = ((r : R) × Does r) ⊎ Waits Asks

-- which of the three a step is
made_or_ended : {C K : Type 0} (Steps : Machine C K) (c : C) (choices : List K) (r : Outcome C K) → Steps c choices r → MakesStep Steps c choices ⊎ HasEnded Steps c choices
made_or_ended Steps c choices (next d rest) is = inl (next d rest, is, λ e. cc)
made_or_ended Steps c choices (last ended) is = inr is
made_or_ended Steps c choices (last stopped) is = inl (last stopped, is, λ e. cc)
made_or_ended Steps c choices (last (fault kind place)) is = inl (last (fault kind place), is, λ e. cc)

pub none_of_three : {C K : Type 0} (Steps : Machine C K) (Asks : Request → List Choice → Type 0) (c : C) (choices : List K) → (¬ MakesStep Steps c choices) → (¬ HasEnded Steps c choices) → (¬ Waits Asks) → StepsOr (Steps c choices) Asks → ⊥
none_of_three Steps Asks c choices made at_end waits (inl r) = elim (made_or_ended Steps c choices r.0 r.1) [ inl m ↦ made m | inr e ↦ at_end e ]
none_of_three Steps Asks c choices made at_end waits (inr w) = waits w
