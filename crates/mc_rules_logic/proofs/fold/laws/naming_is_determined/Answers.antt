use Rattle.mc_rules_logic.proofs.FoldLemmas.Determined.{spare_determined, merge_determined, drop_determined}
use Rattle.mc_rules_logic.proofs.FoldLemmas.WrittenOnce.{forget_determined}
use Rattle.mc_rules_logic.proofs.fold.laws.naming_is_determined.Goals as goal

pub returns : goal.returns
returns c = record { spare = spare_determined; merge = merge_determined; drop_edge = drop_determined; forget = forget_determined }
