-- The states that C2 and C3 make are well made.
use Rattle.std.proofs.Common.{ℕ, List}
use Rattle.mc_flow.specs.declared.defs.rules.Def.{Def}
use Rattle.mc_flow.specs.declared.graph.Flow.{Flow}
use Rattle.mc_state.specs.Known.{Test}
use Rattle.mc_state.specs.declared.line.JoinStep.{JoinStep}
use Rattle.mc_state.specs.State.{State}
use Rattle.mc_state.specs.Laws.{UnknownIsBounded}
use Rattle.mc_kernel.specs.Reading.Laws.{LinesMakeWellMade}
use Rattle.mc_joins.specs.Same.Laws.{AnewIsBounded}
use Rattle.mc_joins.specs.Same.Same.{anew}
use Rattle.mc_joins.specs.Laws.{JoinsMakeWell}
use Rattle.mc_joins.specs.Whole.{Joins}
use Rattle.mc_joins.specs.Chains.Chains.{KnowsStates}
use Rattle.mc_joins.specs.Chains.Laws.{Made}
use Rattle.mc_joins.proofs.ChainsLemmas.AnewMade.{anew_made}

-- what is used of states that lines and joins make
pub record MakingLaws : Type 0 where
  pub made : LinesMakeWellMade
  pub unknown : UnknownIsBounded
  pub anew_bounded : AnewIsBounded
  pub joins : JoinsMakeWell

pub record NewStatesAreMade (know : State → Test) (flow : Flow) (defs : List Def) : Type 0 where
  pub anew_made : (s : State) → Made flow defs s → Made flow defs (anew s)
  pub join_made : (round : ℕ) (left right : State) (steps : List JoinStep) (t : State)
      → Joins (record { know = know; defs = defs }) round flow.thresholds left right steps t
      → Made flow defs left → Made flow defs right → Made flow defs t

pub new_states : AnewIsBounded → JoinsMakeWell → (know : State → Test) (flow : Flow) (defs : List Def) → KnowsStates flow defs know → NewStatesAreMade know flow defs
new_states bounded joins know flow defs knows = record {
  anew_made = λ s made. anew_made bounded defs flow.vars flow.structs.list s made;
  join_made = λ round left right steps t j lm rm. joins defs flow.vars flow.structs.list know round flow.thresholds left right steps t knows lm rm j;
}
