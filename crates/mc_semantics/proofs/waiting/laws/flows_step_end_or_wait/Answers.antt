use Rattle.mc_semantics.proofs.WaitingLemmas.Flows.{one_of_three}
use Rattle.mc_semantics.proofs.waiting.laws.flows_step_end_or_wait.Goals as goal

pub returns : goal.returns
returns c = λ flow defs valid n choices left config leads. one_of_three flow defs valid n choices left config leads
