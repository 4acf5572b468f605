use Rattle.std.proofs.Common.{◌≡◌, take}
use Rattle.mc_state.specs.State.{with_atoms}
use Rattle.mc_state_io.proofs.raw.building.put_atoms.Given as goal

abbrev pub invariant-loop-atom : goal.invariant-loop-atom
invariant-loop-atom l = l.state ≡ with_atoms l.initial.state (take l.atom-index l.atoms)
