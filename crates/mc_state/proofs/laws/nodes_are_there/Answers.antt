use Rattle.mc_state.proofs.Bounds as proof
use Rattle.mc_state.proofs.laws.nodes_are_there.Goals as goal

pub returns : goal.returns
returns c = record { below = proof.nodes_are_below; new = proof.new_nodes_are_there; kinds = proof.new_nodes_have_kinds; picked = proof.picked_nodes_are_there }
