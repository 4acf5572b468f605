use Rattle.std.proofs.Common.{refl, ap, length, arith}
use Rattle.mc_symbolic.proofs.EdgesLemmas.Places.{ids_taken}
use Rattle.mc_symbolic.proofs.edges.graph.Graph.take_back.Goals as goal

pub invariant_of-self : goal.invariant_of-self
invariant_of-self c =
    let y = c.if-is_last.ensures.yes refl in
    let n = ap length c.as_slice.ensures.value in
    let m = c.as_slice.ensures.len in
    rw c.pop.ensures.rest (ids_taken _ 0 c.self.inside.next c.self.inside.edges.items (omega arith) c.self.invariant)
