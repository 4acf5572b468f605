use Rattle.std.proofs.Common.{◌≡◌, length}
use Rattle.mc_flow.specs.Values.{all_there}
use Rattle.mc_run_values.specs.Script.Models.{prefixed}
use Rattle.mc_run_values.proofs.values.reading.all_there.Given as goal

abbrev pub invariant-loop-left : goal.invariant-loop-left
invariant-loop-left l = prefixed l.there.items (all_there l.left) ≡ all_there l.values

abbrev pub decreases-loop-left : goal.decreases-loop-left
decreases-loop-left l = length l.left
