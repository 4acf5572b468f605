use Rattle.mc_state.specs.Graph.Graph.{block_starts}
use Rattle.mc_symbolic.proofs.Starts.{false_same, follows_to, follows_from}
use Rattle.mc_symbolic.proofs.state.State.known.Goals as goal

pub returns-clause-follows : goal.returns-clause-follows
returns-clause-follows c =
    let p = c.self.inside.pure in
    let more = c.derived_grows.ensures.atoms in
    let false_more = c.derived_grows.ensures.false_stays in
    let starts = block_starts c.self.inside.graph.edges in
    rw (← c.self.view_is) (λ f. (follows_to more false_more p.kinds p.written p.starts starts c.self.invariant.starts f, follows_from more false_more p.kinds p.written p.starts starts c.self.invariant.starts f))

pub returns-clause-is_false : goal.returns-clause-is_false
returns-clause-is_false c =
    let p = c.self.inside.pure in
    rw (← c.self.view_is) (false_same c.derived_grows.ensures.atoms c.derived_grows.ensures.false_stays p.kinds p.written p.starts (block_starts c.self.inside.graph.edges) c.self.invariant.starts)
