use Rattle.mc_pure.specs.Known.{pure_of}
use Rattle.mc_pure.specs.Rows.{IsSound, weight}
use Rattle.mc_pure.specs.Scopes.{SettledElsewhere}
use Rattle.mc_pure.proofs.close.settle.Given as goal

abbrev pub invariant-loop-class : goal.invariant-loop-class
invariant-loop-class l = record { sound : IsSound (pure_of l.known) l.rows; rest : SettledElsewhere (pure_of l.known) l.rows l.scope }

abbrev pub decreases-loop-class : goal.decreases-loop-class
decreases-loop-class l = weight l.rows
