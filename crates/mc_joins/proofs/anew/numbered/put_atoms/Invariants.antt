use Rattle.std.proofs.Common.{◌≡◌, take, map}
use Rattle.mc_base.specs.Atoms.{moved_atom}
use Rattle.mc_pure_ops.specs.Renaming.Images.{image}
use Rattle.mc_state.specs.State.{with_atoms}
use Rattle.mc_joins.proofs.anew.numbered.put_atoms.Given as goal

abbrev pub invariant-loop-atom : goal.invariant-loop-atom
invariant-loop-atom l = l.fresh ≡ with_atoms l.fn.fresh (map (moved_atom (image l.renaming)) (take l.atom-index l.atoms))
