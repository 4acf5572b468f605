use Rattle.mc_state.proofs.Changing as proof
use Rattle.mc_state.proofs.laws.less_is_known.Goals as goal

pub returns : goal.returns
returns c = record { atoms = proof.atoms_are_dropped; node = proof.node_is_dropped }
