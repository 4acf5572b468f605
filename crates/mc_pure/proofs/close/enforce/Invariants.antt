use Rattle.mc_pure.specs.Known.{pure_of}
use Rattle.mc_pure.specs.Rows.{IsSound, Keeps, weight}
use Rattle.mc_pure.proofs.close.enforce.Given as goal

abbrev pub invariant-loop-class : goal.invariant-loop-class
invariant-loop-class l = record { sound : IsSound (pure_of l.known) l.rows; keeps : Keeps (pure_of l.known) l.initial.rows l.rows }

abbrev pub decreases-loop-class : goal.decreases-loop-class
decreases-loop-class l = weight l.rows
