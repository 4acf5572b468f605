use Rattle.mc_state.specs.Graph.Graph.{block_starts}
use Rattle.mc_symbolic.proofs.Starts.{behind, derived_same, told}
use Rattle.mc_symbolic.proofs.state.State.knows.Goals as goal

pub returns-clause-derived : goal.returns-clause-derived
returns-clause-derived c =
    let p = c.self.inside.pure in
    let same = derived_same c.derived_grows.ensures.atoms c.derived_grows.ensures.false_stays p.kinds p.written p.starts (block_starts c.self.inside.graph.edges) c.self.invariant.starts in
    rw (← c.self.view_is) (behind c.entails.ensures (same c.args.atom.now))

pub returns-clause-told : goal.returns-clause-told
returns-clause-told c =
    let p = c.self.inside.pure in
    let same = derived_same c.derived_grows.ensures.atoms c.derived_grows.ensures.false_stays p.kinds p.written p.starts (block_starts c.self.inside.graph.edges) c.self.invariant.starts in
    rw (← c.self.view_is) (λ know t. told c.entails.result (know c.args.atom.now) (behind c.entails.ensures (same c.args.atom.now)) (t c.args.atom.now))
