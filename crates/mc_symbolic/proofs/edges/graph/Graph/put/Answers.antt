use Rattle.std.proofs.Common.{Some, sym, ap, subst, ◌∙◌}
use Rattle.mc_state.specs.Graph.Graph.{Graph, Edges, IdsAscend}
use Rattle.mc_symbolic.proofs.EdgesLemmas.Places.{absent_replaced, found_replaced}
use Rattle.mc_symbolic.proofs.edges.graph.Graph.put.Goals as goal
use Rattle.mc_state.proofs.Ids.{ids_replaced}

pub invariant_of-self : goal.invariant_of-self
invariant_of-self c =
    let s = rw c.as_slice.ensures.value at c.in-Some.ensures in
    let e = c.put_at.ensures ∙ sym (found_replaced c.self.inside.edges.items c.args.id c.in-Some.place c.args.edge s) in
    subst (λ (z : Edges). IdsAscend 0 z c.self.inside.next) (sym e) (ids_replaced 0 c.self.inside.edges.items c.self.inside.next c.args.id c.args.edge c.self.invariant)

pub returns-in-Some : goal.returns-in-Some
returns-in-Some c =
    let s = rw c.as_slice.ensures.value at c.in-Some.ensures in
    let e = c.put_at.ensures ∙ sym (found_replaced c.self.inside.edges.items c.args.id c.in-Some.place c.args.edge s) in
    rw (← c.self.view_is) (let f : Edges → Graph = λ z. record { edges = z; next = c.self.inside.next } in ap f e)

pub returns-in-None : goal.returns-in-None
returns-in-None c =
    let s = rw c.as_slice.ensures.value at c.in-None.ensures in
    rw (← c.self.view_is) (let f : Edges → Graph = λ z. record { edges = z; next = c.self.inside.next } in ap f (sym (absent_replaced c.self.inside.edges.items c.args.id c.args.edge s)))
