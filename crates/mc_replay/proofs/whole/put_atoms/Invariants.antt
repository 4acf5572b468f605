use Rattle.std.proofs.Common.{◌≡◌, take}
use Rattle.mc_state.specs.State.{with_atoms}
use Rattle.mc_replay.proofs.whole.put_atoms.Given as goal

abbrev pub invariant-loop-atom : goal.invariant-loop-atom
invariant-loop-atom l = l.out ≡ with_atoms l.fn.out (take l.atom-index l.atoms)
