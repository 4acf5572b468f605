use Rattle.std.proofs.Common.{◌≡◌, map, take}
use Rattle.mc_flow.specs.Defs.Values.{value_of}
use Rattle.mc_shape_search.proofs.sat.search.call_goal.Given as goal

abbrev pub invariant-loop-name : goal.invariant-loop-name
invariant-loop-name l = l.args ≡ map (value_of l.names) (take l.name-index l.call.args)
