use Rattle.mc_state.specs.Graph.Graph.{block_starts}
use Rattle.mc_state.specs.Known.{is_false}
use Rattle.mc_symbolic.proofs.Starts.{behind, false_same, told}
use Rattle.mc_symbolic.specs.Kept.{seen}
use Rattle.mc_symbolic.proofs.state.State.is_false.Goals as goal

pub returns-clause-derived : goal.returns-clause-derived
returns-clause-derived c =
    let p = c.self.inside.pure in
    let same = false_same c.derived_grows.ensures.atoms c.derived_grows.ensures.false_stays p.kinds p.written p.starts (block_starts c.self.inside.graph.edges) c.self.invariant.starts in
    rw (← c.self.view_is) (behind c.is_false.ensures same)

pub returns-clause-told : goal.returns-clause-told
returns-clause-told c =
    let p = c.self.inside.pure in
    let same = false_same c.derived_grows.ensures.atoms c.derived_grows.ensures.false_stays p.kinds p.written p.starts (block_starts c.self.inside.graph.edges) c.self.invariant.starts in
    rw (← c.self.view_is) (λ know t. told c.is_false.result (is_false know) (behind c.is_false.ensures same) (c.tests_tell.ensures.is_false know (seen c.self.inside) t))
