use Rattle.std.proofs.Common.{Some, sym, ap, ◌∙◌}
use Rattle.mc_symbolic.proofs.EdgesLemmas.Places.{Entry, absent_edge, found_edge}
use Rattle.mc_symbolic.proofs.edges.graph.Graph.get.Goals as goal

pub returns-in-Some : goal.returns-in-Some
returns-in-Some c =
    let s = rw c.as_slice.ensures.value at c.in-Some.ensures in
    rw (← c.self.view_is) (ap (λ (z : Entry). Some z.1) c.index.ensures ∙ sym (found_edge c.self.inside.edges.items c.args.id c.in-Some.place c.index.result.now s))

pub returns-in-None : goal.returns-in-None
returns-in-None c =
    let s = rw c.as_slice.ensures.value at c.in-None.ensures in
    rw (← c.self.view_is) (sym (absent_edge c.self.inside.edges.items c.args.id s))
