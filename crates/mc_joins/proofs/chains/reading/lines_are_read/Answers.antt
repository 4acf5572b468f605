use Rattle.mc_joins.proofs.ChainsLemmas.NewStates.{MakingLaws}
use Rattle.mc_joins.proofs.ChainsLemmas.ReadLines.{Laws, begun_chain_is_kept, lines_keep_chains, pass_lines_are_judged, pass_lines_are_read}
use Rattle.mc_joins.proofs.chains.reading.lines_are_read.Goals as goal

pub returns : goal.returns
returns c =
    let making : MakingLaws = record {
      made = c.lines_make_well_made.ensures;
      unknown = c.numbers_stay_bounded.ensures.unknown;
      anew_bounded = c.numbering_is_sound.ensures.bounded;
      joins = c.joins_make_well.ensures;
    } in
    let laws : Laws = record {
      making = making;
      judged = c.lines_are_judged.ensures.judged;
      opening = c.changes_are_judged.ensures.opening;
      joining = c.changes_are_judged.ensures.joining;
    } in
    record {
      judged = pass_lines_are_judged laws;
      begun = begun_chain_is_kept;
      kept = lines_keep_chains laws;
      read = pass_lines_are_read laws;
    }
