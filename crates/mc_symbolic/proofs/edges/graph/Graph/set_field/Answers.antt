use Rattle.std.proofs.Common.{Some, sym, ap, subst, ◌∙◌}
use Rattle.mc_state.specs.declared.graph.edge.Edge.{Edge}
use Rattle.mc_state.specs.Graph.Edges.{with_field_node}
use Rattle.mc_state.specs.Graph.Graph.{Graph, Edges, IdsAscend, replaced}
use Rattle.mc_symbolic.proofs.EdgesLemmas.Places.{absent_edge, none_there, one_edge, set_found}
use Rattle.mc_symbolic.proofs.edges.graph.Graph.set_field.Goals as goal
use Rattle.mc_state.proofs.Ids.{ids_replaced}

pub invariant_of-self : goal.invariant_of-self
invariant_of-self c =
    let s = rw c.as_slice.ensures.value at c.in-Some.ensures in
    let k = set_found c.self.inside.edges.items c.args.id c.in-Some.place c.args.f c.args.node c.set_field_at.new.edges.items s c.set_field_at.ensures in
    subst (λ (z : Edges). IdsAscend 0 z c.self.inside.next) (sym k.2) (ids_replaced 0 c.self.inside.edges.items c.self.inside.next c.args.id (with_field_node c.args.f c.args.node k.0) c.self.invariant)

pub returns-in-Some-clause-there : goal.returns-in-Some-clause-there
returns-in-Some-clause-there c =
    let s = rw c.as_slice.ensures.value at c.in-Some.ensures in
    let k = set_found c.self.inside.edges.items c.args.id c.in-Some.place c.args.f c.args.node c.set_field_at.new.edges.items s c.set_field_at.ensures in
    let f : Edges → Graph = λ z. record { edges = z; next = c.self.inside.next } in
    rw (← c.self.view_is) (λ e q. ap f (k.2 ∙ ap (λ (z : Edge). replaced c.self.inside.edges.items c.args.id (with_field_node c.args.f c.args.node z)) (one_edge k.0 e (sym k.1 ∙ q))))

pub returns-in-Some-clause-absent : goal.returns-in-Some-clause-absent
returns-in-Some-clause-absent c =
    let s = rw c.as_slice.ensures.value at c.in-Some.ensures in
    let k = set_found c.self.inside.edges.items c.args.id c.in-Some.place c.args.f c.args.node c.set_field_at.new.edges.items s c.set_field_at.ensures in
    rw (← c.self.view_is) (λ q. absurd (none_there c.self.inside.edges.items c.args.id k.0 q k.1))

pub returns-in-None-clause-there : goal.returns-in-None-clause-there
returns-in-None-clause-there c =
    let s = rw c.as_slice.ensures.value at c.in-None.ensures in
    rw (← c.self.view_is) (λ e q. absurd (none_there c.self.inside.edges.items c.args.id e (absent_edge c.self.inside.edges.items c.args.id s) q))
