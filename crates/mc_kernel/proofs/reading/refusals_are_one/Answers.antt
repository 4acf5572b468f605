use Rattle.mc_kernel.proofs.ReadingLemmas.Made.{Makes}
use Rattle.mc_kernel.proofs.ReadingLemmas.Rules.{Right}
use Rattle.mc_kernel.proofs.ReadingLemmas.Refused.{refusals_are_read, refusal_is_one, documents_are_decided, read_is_not_refused, refused_is_never_valid}
use Rattle.mc_kernel.proofs.reading.refusals_are_one.Goals as goal

pub returns : goal.returns
returns c =
    let makes : Makes = record {
      steps = c.steps_are_well_made.ensures;
      ind = c.unfolding_is_well_made.ensures.ind;
      seg = c.unfolding_is_well_made.ensures.seg;
      back = c.back_is_well_made.ensures;
      fold_ind = c.folding_makes_well.ensures.ind;
      fold_seg = c.folding_makes_well.ensures.seg;
      close = c.segments_make_well.ensures.close;
      join = c.segments_make_well.ensures.join;
      empty_seg = c.segments_make_well.ensures.empty;
      spare = c.naming_makes_well.ensures.spare;
      merge = c.naming_makes_well.ensures.merge;
      drop_edge = c.naming_makes_well.ensures.drop_edge;
      forget = c.naming_makes_well.ensures.forget;
      unknown = c.numbers_stay_bounded.ensures.unknown;
    } in
    let right : Right = record { judged = c.lines_are_judged.ensures.judged; makes = makes } in
    record { answered = refusals_are_read; once = refusal_is_one; decided = documents_are_decided; apart = read_is_not_refused; never_valid = refused_is_never_valid right }
