use Rattle.mc_joins.proofs.ChainsLemmas.Judging.{opening_judged, joining_judged}
use Rattle.mc_joins.proofs.chains.laws.changes_are_judged.Goals as goal

pub returns : goal.returns
returns c =
    record {
      opening = opening_judged c.tests_tell.ensures.is_false;
      joining =
          joining_judged c.tests_tell.ensures.is_false c.joins_are_determined.ensures c.numbering_is_sound.ensures.bounded
          c.joins_make_well.ensures;
    }
