use Rattle.mc_state.specs.Facts.{instead}
use Rattle.mc_symbolic.proofs.EdgesLemmas.Places.{ids_moved}
use Rattle.mc_symbolic.proofs.edges.graph.Graph.merge.Goals as goal

pub invariant_of-self : goal.invariant_of-self
invariant_of-self c = rw (c.in_ok-self-inside.ensures, c.as_slice.ensures.value) (ids_moved (instead c.args.keep.0 c.args.gone.0) 0 c.self.inside.next c.self.inside.edges.items c.self.invariant)
