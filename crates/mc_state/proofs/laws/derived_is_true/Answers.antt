use Rattle.mc_state.proofs.Truth as proof
use Rattle.mc_state.proofs.Truth.{PureLaws}
use Rattle.mc_state.proofs.laws.derived_is_true.Goals as goal

pub returns : goal.returns
returns c =
    let laws : PureLaws = record { derived = c.derived_is_true.ensures.derived; not_false = c.derived_is_true.ensures.not_false } in
    record { derived = proof.derived_is_true laws; not_false = proof.none_stands_for_false laws; equal = proof.equal_nodes_are_one laws; kind = proof.lies_in_its_kind laws }
