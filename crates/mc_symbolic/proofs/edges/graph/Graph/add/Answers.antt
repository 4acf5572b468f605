use Rattle.std.proofs.Common.{refl, arith}
use Rattle.mc_symbolic.proofs.EdgesLemmas.Places.{ids_pushed}
use Rattle.mc_symbolic.proofs.edges.graph.Graph.add.Goals as goal

pub invariant_of-self-2 : goal.invariant_of-self-2
invariant_of-self-2 c = rw c.in_ok-push.ensures.items (ids_pushed 0 c.self.inside.next c.self.inside.edges.items (record { 0 = c.self.inside.next }) c.args.edge (omega arith) refl c.self.invariant)
