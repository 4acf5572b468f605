use Rattle.std.proofs.Common.{◌<◌, ℕ}
use Rattle.mc_lower.specs.Settled.{HasPoint, Settles}
use Rattle.mc_lower.proofs.settling.settle_ways.Given as goal

abbrev pub invariant-loop-label : goal.invariant-loop-label
invariant-loop-label l =
    record {
      settles : Settles l.initial.ways.items l.ways.items;
      done : (k : ℕ) → k < l.label → HasPoint l.ways.items k;
    }
