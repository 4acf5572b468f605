use Rattle.mc_rules_logic.proofs.FoldLemmas.MadeEdges.{close_seg_made, join_segs_made, empty_seg_made}
use Rattle.mc_rules_logic.proofs.fold.made.segments_make_well.Goals as goal

pub returns : goal.returns
returns c =
    record {
      close = close_seg_made c.segments_are_closed.ensures.close;
      join = join_segs_made c.segments_are_closed.ensures.join;
      empty = empty_seg_made c.segments_are_closed.ensures.empty;
    }
