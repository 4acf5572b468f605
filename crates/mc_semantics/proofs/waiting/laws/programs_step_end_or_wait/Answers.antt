use Rattle.mc_semantics.proofs.WaitingLemmas.Programs.{one_of_three}
use Rattle.mc_semantics.proofs.waiting.laws.programs_step_end_or_wait.Goals as goal

pub returns : goal.returns
returns c = λ unit entry defs f typed found n choices left config leads.
    one_of_three c.values_are_determined.ensures.values c.values_are_determined.ensures.arrivals c.steps_are_determined.ensures unit entry defs f typed found n choices left config leads
