use Rattle.std.proofs.Common.{refl}
use Rattle.mc_symbolic.proofs.EdgesLemmas.Places.{do_ascend, found, missing}
use Rattle.mc_symbolic.proofs.edges.graph.find.Goals as goal

pub place_in-place-requires : goal.place_in-place-requires
place_in-place-requires c = do_ascend 0 c.args.edges.now c.args.next c.requires

pub returns-then-stands_at : goal.returns-then-stands_at
returns-then-stands_at c =
    let s = c.if-stands_at.ensures.yes refl in
    found c.args.edges.now c.args.id c.place_in-place.result (do_ascend 0 c.args.edges.now c.args.next c.requires) s.0 s.1

pub returns-else-stands_at : goal.returns-else-stands_at
returns-else-stands_at c =
    missing c.args.edges.now c.args.id c.place_in-place.result (do_ascend 0 c.args.edges.now c.args.next c.requires) c.place_in-place.ensures.place (c.if-stands_at.ensures.no refl)
