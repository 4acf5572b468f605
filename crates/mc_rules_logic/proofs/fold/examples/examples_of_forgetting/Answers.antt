use Rattle.mc_rules_logic.proofs.FoldLemmas.ExampleGap.{gap_forgotten}
use Rattle.mc_rules_logic.proofs.FoldLemmas.ExampleWritten.{block_forgotten}
use Rattle.mc_rules_logic.proofs.fold.examples.examples_of_forgetting.Goals as goal

pub returns : goal.returns
returns c =
    let truth = c.derived_is_true.ensures.derived in
    let sound = c.derived_is_true.ensures.not_false in
    let grows = c.derived_grows.ensures.atoms in
    record { block = block_forgotten truth sound grows; gap = gap_forgotten sound grows }
