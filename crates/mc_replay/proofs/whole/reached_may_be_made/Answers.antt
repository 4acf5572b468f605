use Rattle.mc_joins.proofs.AtomsLemmas.Consistent.{KnownLaws}
use Rattle.mc_replay.proofs.WholeLemmas.Ready.{may_be_made}
use Rattle.mc_replay.proofs.whole.reached_may_be_made.Goals as goal

pub returns : goal.returns
returns c =
    let laws : KnownLaws = record {
      lists = record {
        says = c.normal_forms_say_all.ensures;
        grows = c.derived_grows.ensures.atoms;
        has = c.each_is_decided.ensures.normal;
        decided = c.each_is_decided.ensures.decided;
      };
      judged = c.naming_is_judged.ensures.spare;
      stays = c.naming_makes_well.ensures.spare;
      below = c.nodes_are_there.ensures.below;
    } in
    may_be_made laws c.nodes_are_there.ensures.kinds c.tests_tell.ensures.kind c.derived_is_renamed.ensures.is_false
