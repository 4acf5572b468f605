use Rattle.mc_joins.proofs.ChainsLemmas.NewStates.{MakingLaws}
use Rattle.mc_joins.proofs.ChainsLemmas.ReadLines.{Laws}
use Rattle.mc_joins.proofs.ChainsLemmas.ReadWhole.{alarms_are_said, legal_chains_are_read, no_alarm_is_said, open_is_said, refused_is_never_legal, unfinished_is_said}
use Rattle.mc_joins.proofs.chains.reading.legal_chains_are_read.Goals as goal

pub returns : goal.returns
returns c =
    let making : MakingLaws = record {
      made = c.lines_make_well_made.ensures;
      unknown = c.numbers_stay_bounded.ensures.unknown;
      anew_bounded = c.numbering_is_sound.ensures.bounded;
      joins = c.joins_make_well.ensures;
    } in
    let laws : Laws = record {
      making = making;
      judged = c.lines_are_judged.ensures.judged;
      opening = c.changes_are_judged.ensures.opening;
      joining = c.changes_are_judged.ensures.joining;
    } in
    record {
      legal = legal_chains_are_read laws;
      alarms = alarms_are_said laws;
      no_alarm = no_alarm_is_said laws;
      unfinished = unfinished_is_said laws;
      early = open_is_said;
      never_legal = refused_is_never_legal laws;
    }
