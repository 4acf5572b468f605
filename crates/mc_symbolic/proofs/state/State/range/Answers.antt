use Rattle.mc_state.specs.Graph.Graph.{block_starts}
use Rattle.mc_symbolic.proofs.Starts.{false_same, range_same}
use Rattle.mc_symbolic.proofs.state.State.range.Goals as goal

pub range-requires-clause-not_false : goal.range-requires-clause-not_false
range-requires-clause-not_false c =
    let p = c.self.inside.pure in
    let same = false_same c.derived_grows.ensures.atoms c.derived_grows.ensures.false_stays p.kinds p.written p.starts (block_starts c.self.inside.graph.edges) c.self.invariant.starts in
    let h = rw (← c.self.view_is) at c.requires.not_false in
    λ f. h (same.0 f)

pub returns : goal.returns
returns c =
    let p = c.self.inside.pure in
    let same = range_same c.derived_grows.ensures.atoms c.derived_grows.ensures.false_stays p.kinds p.written p.starts (block_starts c.self.inside.graph.edges) c.self.invariant.starts in
    rw (← c.self.view_is) (same c.args.node c.range.result.lo c.range.result.hi c.range.ensures)
