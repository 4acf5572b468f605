use Rattle.std.proofs.Common.{◌≡◌, map, take}
use Rattle.mc_base.specs.Atoms.{moved_atom}
use Rattle.mc_pure_ops.specs.Renaming.Images.{image}
use Rattle.mc_pure_ops.specs.Renamed.Renamed.{with_atoms}
use Rattle.mc_pure_ops.proofs.renamed.put_written.Given as goal

abbrev pub invariant-loop-atom : goal.invariant-loop-atom
invariant-loop-atom l = l.renamed ≡ with_atoms l.initial.renamed (map (moved_atom (image l.renaming)) (take l.atom-index l.atom-items))
