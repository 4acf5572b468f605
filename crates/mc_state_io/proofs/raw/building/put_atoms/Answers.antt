use Rattle.std.proofs.Common.{arith}
use Rattle.mc_state_io.proofs.RawLemmas.Built.{atom_fits, atoms_step}
use Rattle.mc_state_io.proofs.raw.building.put_atoms.Goals as goal

pub assume-requires : goal.assume-requires
assume-requires c = atom_fits c.loop-atom.state c.args.state.now c.args.atoms.now c.loop-atom.atom-index _ (omega arith) c.loop-atom.invariant c.requires

pub loop-atom-preserved : goal.loop-atom-preserved
loop-atom-preserved c = atoms_step c.loop-atom.state c.args.state.now c.assume.new.self c.args.atoms.now c.loop-atom.atom-index _ (omega arith) c.loop-atom.invariant c.in_ok-assume.ensures.ok
