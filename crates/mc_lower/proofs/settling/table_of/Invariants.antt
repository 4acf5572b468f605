use Rattle.std.proofs.Common.{◌≡◌, map, take}
use Rattle.mc_lower.specs.Settled.{point_of_way}
use Rattle.mc_lower.proofs.settling.table_of.Given as goal

abbrev pub invariant-loop-way : goal.invariant-loop-way
invariant-loop-way l = l.table.items ≡ map point_of_way (take l.way-index l.ways)
