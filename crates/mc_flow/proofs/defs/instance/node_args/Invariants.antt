use Rattle.std.proofs.Common.{◌≡◌, map, take}
use Rattle.mc_flow.specs.Defs.Instances.{node_of}
use Rattle.mc_flow.proofs.defs.instance.node_args.Given as goal

abbrev pub invariant-loop-name : goal.invariant-loop-name
invariant-loop-name l = l.made ≡ map (node_of l.names) (take l.name-index l.args)
