use Rattle.mc_joins.proofs.ChainsLemmas.JoinsAgree.{StepLaws, legal_chains_are_one}
use Rattle.mc_joins.proofs.ChainsLemmas.ReadAgree.{chain_judges_agree}
use Rattle.mc_joins.proofs.ChainsLemmas.NewStates.{MakingLaws}
use Rattle.mc_joins.proofs.ChainsLemmas.ReadLines.{Laws}
use Rattle.mc_joins.proofs.chains.reading.chain_judges_agree.Goals as goal

pub returns : goal.returns
returns c =
    let making : MakingLaws = record {
      made = c.lines_make_well_made.ensures;
      unknown = c.numbers_stay_bounded.ensures.unknown;
      anew_bounded = c.numbering_is_sound.ensures.bounded;
      joins = c.joins_make_well.ensures;
    } in
    let laws : Laws = record {
      making = making;
      judged = c.lines_are_judged.ensures.judged;
      opening = c.changes_are_judged.ensures.opening;
      joining = c.changes_are_judged.ensures.joining;
    } in
    let steps : StepLaws = record {
      step = c.steps_are_determined.ensures.step;
      keep = c.steps_are_determined.ensures.made;
      prefixes = c.steps_are_determined.ensures.steps;
      stuck = c.stuck_is_every.ensures;
    } in
    record { judges = chain_judges_agree steps c.joins_are_determined.ensures laws; legal = legal_chains_are_one steps making }
