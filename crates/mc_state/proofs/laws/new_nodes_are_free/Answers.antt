use Rattle.mc_state.proofs.Standing as proof
use Rattle.mc_state.proofs.laws.new_nodes_are_free.Goals as goal

pub returns : goal.returns
returns c = record { agreement = proof.stands_by_agreement; values_agree = proof.values_agree; nodes = proof.nodes_are_added; values = proof.nodes_have_values; atoms = proof.atoms_are_added }
