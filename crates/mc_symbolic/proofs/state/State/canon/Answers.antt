use Rattle.std.proofs.Common.{IfOk, Ok, Err, Result}
use Rattle.mc_state.specs.Graph.Graph.{block_starts}
use Rattle.mc_symbolic.proofs.Canonical.{canonical_same}
use Rattle.mc_symbolic.proofs.state.State.canon.Goals as goal

where_ok : {A E : Type 0} {P Q : A → Type 0} (r : Result A E) → ((a : A) → P a → Q a) → IfOk r P → IfOk r Q
where_ok (Ok a) to h = to a h
where_ok (Err e) to h = h

pub returns : goal.returns
returns c =
    let p = c.self.inside.pure in
    let same = canonical_same c.derived_grows.ensures.atoms c.derived_grows.ensures.false_stays p.kinds p.written p.starts (block_starts c.self.inside.graph.edges) c.self.invariant.starts in
    rw (← c.self.view_is) (where_ok c.canon.result (λ list. same list.items) c.canon.ensures)
