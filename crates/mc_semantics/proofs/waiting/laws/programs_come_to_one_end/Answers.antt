use Rattle.mc_flow.specs.Heap.Choices.{Choice}
use Rattle.mc_semantics.specs.Configs.{Config}
use Rattle.mc_semantics.specs.Steps.{Step}
use Rattle.mc_semantics.proofs.WaitingLemmas.Machines.{comes, one_end, reaches}
use Rattle.mc_semantics.proofs.waiting.laws.programs_come_to_one_end.Goals as goal

pub returns-clause-once : goal.returns-clause-once
returns-clause-once c = λ p n m config choices f g one other.
    one_end Config Choice (Step p) (λ d left r s is so. c.steps_are_determined.ensures p d left r s is so) n m config choices f g one other

pub returns-clause-reaches : goal.returns-clause-reaches
returns-clause-reaches c = λ p n config choices f is. reaches Config Choice (Step p) n config choices f is

pub returns-clause-reached : goal.returns-clause-reached
returns-clause-reached c = λ p n config choices f is. comes Config Choice (Step p) n config choices f is
