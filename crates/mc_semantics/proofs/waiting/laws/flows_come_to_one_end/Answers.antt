use Rattle.mc_flow.specs.Heap.Choices.{Choice}
use Rattle.mc_flow.specs.Steps.{Config, Step}
use Rattle.mc_semantics.proofs.WaitingLemmas.Flows.{determined}
use Rattle.mc_semantics.proofs.WaitingLemmas.Machines.{comes, one_end, reaches}
use Rattle.mc_semantics.proofs.waiting.laws.flows_come_to_one_end.Goals as goal

pub returns-clause-determined : goal.returns-clause-determined
returns-clause-determined c = λ flow defs d left r s is so. determined flow defs d left r s is so

pub returns-clause-once : goal.returns-clause-once
returns-clause-once c = λ flow defs n m config choices f g one other.
    one_end Config Choice (Step flow defs) (λ d left r s is so. determined flow defs d left r s is so) n m config choices f g one other

pub returns-clause-reaches : goal.returns-clause-reaches
returns-clause-reaches c = λ flow defs n config choices f is. reaches Config Choice (Step flow defs) n config choices f is

pub returns-clause-reached : goal.returns-clause-reached
returns-clause-reached c = λ flow defs n config choices f is. comes Config Choice (Step flow defs) n config choices f is
