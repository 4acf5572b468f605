use Rattle.std.proofs.Common.{◌≡◌, ◌++◌, drop, map}
use Rattle.mc_flow.specs.Defs.Instances.{node_of}
use Rattle.mc_apply_unfold.proofs.opening.nodes_of_names.Given as goal

abbrev pub invariant-loop-name : goal.invariant-loop-name
invariant-loop-name l = l.args ++ map (node_of l.nodes) (drop l.name-index l.names) ≡ map (node_of l.nodes) l.names
