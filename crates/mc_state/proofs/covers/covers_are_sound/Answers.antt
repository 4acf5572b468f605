use Rattle.mc_state.proofs.CoversSound.{CoverLaws, cover_predicate, seg_cover_segment}
use Rattle.mc_state.proofs.covers.covers_are_sound.Goals as goal

pub returns : goal.returns
returns c =
    let laws : CoverLaws = record {
      parts = record {
        commutes = c.parts_regroup.ensures.commutes;
        left = c.parts_regroup.ensures.left;
        right = c.parts_regroup.ensures.right;
        drops_empty = c.parts_regroup.ensures.drops_empty;
        adds_empty = c.parts_regroup.ensures.adds_empty;
      };
      folds = c.predicates_are_bodies.ensures.folds;
      then_sat = c.segments_join.ensures.predicate;
      then_seg = c.segments_join.ensures.segment;
      truth = c.derived_is_true.ensures.derived;
    } in
    record { predicate = cover_predicate laws; segment = seg_cover_segment laws }
