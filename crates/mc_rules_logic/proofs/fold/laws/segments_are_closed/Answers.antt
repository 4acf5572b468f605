use Rattle.mc_rules_logic.proofs.FoldLemmas.Segments.{close_seg, join_segs, empty_seg}
use Rattle.mc_rules_logic.proofs.FoldLemmas.Standing.{FoldLaws}
use Rattle.mc_rules_logic.proofs.fold.laws.segments_are_closed.Goals as goal

pub returns : goal.returns
returns c =
    let laws : FoldLaws = record {
      parts = record {
        commutes = c.parts_regroup.ensures.commutes;
        left = c.parts_regroup.ensures.left;
        drops_empty = c.parts_regroup.ensures.drops_empty;
        adds_empty = c.parts_regroup.ensures.adds_empty;
      };
      folds = c.predicates_are_bodies.ensures.folds;
      of_body = c.segments_are_bodies.ensures.of_body;
      then_sat = c.segments_join.ensures.predicate;
      then_seg = c.segments_join.ensures.segment;
      truth = c.derived_is_true.ensures.derived;
      equal = c.derived_is_true.ensures.equal;
      taken = c.edges_come_and_go.ensures.taken;
      put = c.edges_come_and_go.ensures.put;
      edges_bounded = c.numbers_stay_bounded.ensures.edges;
      fewer_bounded = c.numbers_stay_bounded.ensures.fewer_edges;
      picked_there = c.nodes_are_there.ensures.picked;
    } in
    record { close = close_seg laws; join = join_segs laws; empty = empty_seg laws }
