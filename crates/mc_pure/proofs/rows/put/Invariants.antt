use Rattle.std.proofs.Common.{◌≡◌, drop, take, ◌++◌, map}
use Rattle.mc_pure.specs.Rows.{changed_by}
use Rattle.mc_pure.proofs.rows.put.Given as goal

abbrev pub invariant-loop-i : goal.invariant-loop-i
invariant-loop-i l = l.rows ≡ map (changed_by l.change) (take l.i l.initial.rows) ++ drop l.i l.initial.rows
