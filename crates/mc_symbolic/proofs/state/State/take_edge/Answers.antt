use Rattle.std.proofs.Common.{sym}
use Rattle.mc_state.specs.Graph.Graph.{edge_with}
use Rattle.mc_symbolic.specs.Kept.{seen}
use Rattle.mc_symbolic.proofs.Kept.{block_there, bounded_without, same_less, same_without}
use Rattle.mc_symbolic.proofs.state.State.take_edge.Goals as goal

pub invariant_of-self-in-Some : goal.invariant_of-self-in-Some
invariant_of-self-in-Some c =
    let i = c.self.inside in
    let k = block_there (edge_with i.graph.edges c.args.id) c.in-Some.at (sym c.in-Some.ensures) in
    rw (c.remove.ensures.left, c.in_ok-unblock-in-Some.ensures.ok) (record {
      bounded = bounded_without c.numbers_stay_bounded.ensures.fewer_edges (seen i) c.args.id c.self.invariant.bounded;
      starts = same_less i.pure.starts i.graph.edges c.args.id k.0 c.in-Some.at k.1 k.2 c.self.invariant.starts;
      atoms = c.self.invariant.atoms;
    })

pub invariant_of-self-in-None : goal.invariant_of-self-in-None
invariant_of-self-in-None c =
    let i = c.self.inside in
    rw (c.remove-in-None.ensures.left) (record {
      bounded = bounded_without c.numbers_stay_bounded.ensures.fewer_edges (seen i) c.args.id c.self.invariant.bounded;
      starts = same_without i.pure.starts i.graph.edges c.args.id (sym c.in-None.ensures) c.self.invariant.starts;
      atoms = c.self.invariant.atoms;
    })
