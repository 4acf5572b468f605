use Rattle.std.proofs.Common.{◌≡◌, ◌++◌, Some, drop, map}
use Rattle.mc_flow.specs.Defs.Instances.{node_of}
use Rattle.mc_apply_unfold.proofs.opening.block_edge.Given as goal

abbrev pub invariant-loop-name : goal.invariant-loop-name
invariant-loop-name l =
    l.fields ++ map (λ name. Some (node_of l.nodes name)) (drop l.name-index l.rule.contents) ≡ map (λ name. Some (node_of l.nodes name)) l.rule.contents
