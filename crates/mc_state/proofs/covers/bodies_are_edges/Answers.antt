use Rattle.mc_state.proofs.Bodies.{bodies_edges, seg_bodies_edges}
use Rattle.mc_state.proofs.Parts.{SplitLaws}
use Rattle.mc_state.proofs.covers.bodies_are_edges.Goals as goal

pub returns : goal.returns
returns c =
    let laws : SplitLaws = record {
      commutes = c.parts_regroup.ensures.commutes;
      left = c.parts_regroup.ensures.left;
      right = c.parts_regroup.ensures.right;
      drops_empty = c.parts_regroup.ensures.drops_empty;
      adds_empty = c.parts_regroup.ensures.adds_empty;
    } in
    record { bodies = bodies_edges laws; segments = seg_bodies_edges laws }
