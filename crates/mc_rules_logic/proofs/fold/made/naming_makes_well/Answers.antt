use Rattle.mc_rules_logic.proofs.FoldLemmas.MadeEdges.{drop_made}
use Rattle.mc_rules_logic.proofs.FoldLemmas.MadeForgotten.{forget_made}
use Rattle.mc_rules_logic.proofs.FoldLemmas.MadeNodes.{spare_made, merge_made}
use Rattle.mc_rules_logic.proofs.fold.made.naming_makes_well.Goals as goal

pub returns : goal.returns
returns c =
    record {
      spare = spare_made c.naming_is_sound.ensures.spare c.nodes_are_there.ensures.kinds;
      merge = merge_made c.naming_is_sound.ensures.merge;
      drop_edge = drop_made c.naming_is_sound.ensures.drop_edge;
      forget = forget_made c.naming_is_sound.ensures.forget;
    }
