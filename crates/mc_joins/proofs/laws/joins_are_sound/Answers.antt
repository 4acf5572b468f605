use Rattle.mc_joins.proofs.JoinsStand.{joins_are_sound}
use Rattle.mc_joins.proofs.Regions.{SplitLaws}
use Rattle.mc_joins.proofs.SideParts.{SoundLaws}
use Rattle.mc_joins.proofs.laws.joins_are_sound.Goals as goal

pub returns : goal.returns
returns c =
    let p = c.parts_regroup.ensures in
    let splits : SplitLaws = record { commutes = p.commutes; left = p.left; right = p.right; drops_empty = p.drops_empty; adds_empty = p.adds_empty } in
    let laws : SoundLaws = record {
      splits = splits;
      judged = c.naming_is_judged.ensures.spare;
      stays = c.naming_makes_well.ensures.spare;
      spare = c.naming_is_sound.ensures.spare;
      new_kinds = c.nodes_are_there.ensures.kinds;
      below = c.nodes_are_there.ensures.below;
      truth = c.derived_is_true.ensures.derived;
      entailed = c.derived_is_true-2.ensures.derived;
      predicate = c.covers_are_sound.ensures.predicate;
      segment = c.covers_are_sound.ensures.segment;
      told = c.tests_tell.ensures.kind;
      picks = c.picks_are_named.ensures;
      cover = c.firsts_are_covers.ensures.cover;
      seg_cover = c.firsts_are_covers.ensures.segment;
      takes = c.firsts_are_covers.ensures.edges;
    } in
    joins_are_sound laws
