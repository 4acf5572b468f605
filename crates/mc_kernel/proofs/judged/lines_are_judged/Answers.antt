use Rattle.mc_kernel.proofs.LinesJudged.{Ties, lines_judged, lines_determined, unmet_is_no_line, lines_decided}
use Rattle.mc_kernel.proofs.judged.lines_are_judged.Goals as goal

pub returns : goal.returns
returns c =
    let ties : Ties = record {
      steps = c.steps_are_judged.ensures.judged;
      ind = c.unfolding_is_judged.ensures.ind;
      seg = c.unfolding_is_judged.ensures.seg;
      back = c.back_is_judged.ensures;
      fold_ind = c.folding_is_judged.ensures.ind;
      fold_seg = c.folding_is_judged.ensures.seg;
      close = c.segments_are_judged.ensures.close;
      join = c.segments_are_judged.ensures.join;
      empty_seg = c.segments_are_judged.ensures.empty;
      spare = c.naming_is_judged.ensures.spare;
      merge = c.naming_is_judged.ensures.merge;
      drop_edge = c.naming_is_judged.ensures.drop_edge;
      forget = c.naming_is_judged.ensures.forget;
      goal = c.segments_are_judged.ensures.goal;
    } in
    record { judged = lines_judged ties; determined = lines_determined ties; unmet = unmet_is_no_line ties; decided = lines_decided ties }
