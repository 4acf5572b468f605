use Rattle.mc_state.proofs.Variables as proof
use Rattle.mc_state.proofs.laws.variables_change.Goals as goal

pub returns : goal.returns
returns c = record { set = proof.var_is_set; forgotten = proof.var_is_forgotten; known = proof.var_is_known }
