use Rattle.std.proofs.Common.{◌≡◌, map, take}
use Rattle.mc_flow.specs.Defs.Instances.{atom_of}
use Rattle.mc_flow.proofs.defs.instance.node_atoms.Given as goal

abbrev pub invariant-loop-atom : goal.invariant-loop-atom
invariant-loop-atom l = l.made ≡ map (atom_of l.names) (take l.atom-index l.atoms)
