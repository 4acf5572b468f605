use Rattle.mc_pure.specs.Known.{pure_of}
use Rattle.mc_pure.specs.Rows.{IsSound, weight}
use Rattle.mc_pure.specs.Scopes.{SettledElsewhereBut}
use Rattle.mc_pure.proofs.close.include_within.Given as goal

abbrev pub invariant-loop-rows : goal.invariant-loop-rows
invariant-loop-rows l = record { sound : IsSound (pure_of l.known) l.rows; rest : SettledElsewhereBut (pure_of l.known) l.rows l.scope l.atom }

abbrev pub decreases-loop-rows : goal.decreases-loop-rows
decreases-loop-rows l = weight l.rows
