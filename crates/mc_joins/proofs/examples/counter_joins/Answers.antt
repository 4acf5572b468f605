use Rattle.std.proofs.Common.{refl}
use Rattle.mc_joins.proofs.Counter.{in_second, in_third}
use Rattle.mc_joins.proofs.examples.counter_joins.Goals as goal

pub returns : goal.returns
returns c = record { done = refl; counter = refl; second = in_second; third = in_third }
