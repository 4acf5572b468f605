use Rattle.mc_semantics.proofs.Determined.{one_arrival, one_value}
use Rattle.mc_semantics.proofs.laws.values_are_determined.Goals as goal

pub returns-clause-values : goal.returns-clause-values
returns-clause-values c = λ h e choices one other is so. one_value h e choices one other is so

pub returns-clause-arrivals : goal.returns-clause-arrivals
returns-clause-arrivals c = λ t values first second tasks one other is so. one_arrival t is so
