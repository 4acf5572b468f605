use Rattle.std.proofs.Common.{Some, sym, ap, ◌∙◌, refl}
use Rattle.mc_state.specs.Graph.Graph.{Graph, Edges}
use Rattle.mc_symbolic.proofs.EdgesLemmas.Places.{Entry, absent_edge, absent_without, found_edge, found_without}
use Rattle.mc_symbolic.proofs.edges.graph.Graph.remove.Goals as goal
use Rattle.mc_state.proofs.Ids.{ids_without}

pub invariant_of-self : goal.invariant_of-self
invariant_of-self c =
    let s = rw c.as_slice.ensures.value at c.in-Some.ensures in
    rw (c.remove.ensures.items, ← (found_without c.self.inside.edges.items c.args.id c.in-Some.place s)) (ids_without 0 c.self.inside.edges.items c.self.inside.next c.args.id c.self.invariant)

pub returns-in-Some-clause-edge : goal.returns-in-Some-clause-edge
returns-in-Some-clause-edge c =
    let s = rw c.as_slice.ensures.value at c.in-Some.ensures in
    rw (← c.self.view_is) (ap (λ (z : Entry). Some z.1) c.remove.ensures.value ∙ sym (found_edge c.self.inside.edges.items c.args.id c.in-Some.place c.remove.result s))

pub returns-in-Some-clause-left : goal.returns-in-Some-clause-left
returns-in-Some-clause-left c =
    let s = rw c.as_slice.ensures.value at c.in-Some.ensures in
    rw (← c.self.view_is) (let f : Edges → Graph = λ z. record { edges = z; next = c.self.inside.next } in ap f (c.remove.ensures.items ∙ sym (found_without c.self.inside.edges.items c.args.id c.in-Some.place s)))

pub returns-in-None-clause-edge : goal.returns-in-None-clause-edge
returns-in-None-clause-edge c =
    let s = rw c.as_slice.ensures.value at c.in-None.ensures in
    rw (← c.self.view_is) (sym (absent_edge c.self.inside.edges.items c.args.id s))

pub returns-in-None-clause-left : goal.returns-in-None-clause-left
returns-in-None-clause-left c =
    let s = rw c.as_slice.ensures.value at c.in-None.ensures in
    rw (← c.self.view_is) (let f : Edges → Graph = λ z. record { edges = z; next = c.self.inside.next } in ap f (sym (absent_without c.self.inside.edges.items c.args.id s)))
