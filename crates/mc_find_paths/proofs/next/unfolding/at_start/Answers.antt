use Rattle.std.proofs.Common.{◌≡◌, ◌∙◌, ◌<◌, Option, ap, sym, subst, get_or, length}
use Rattle.std.specs.Prelude.{option_and_then}
use Rattle.mc_base.specs.declared.ids.EdgeId.{EdgeId}
use Rattle.mc_state.specs.declared.graph.edge.Edge.{Edge}
use Rattle.mc_state.specs.Graph.Graph.{Edges}
use Rattle.mc_kernel.specs.Progress.Asked.{from_start, starts_at}
use Rattle.mc_find_paths.proofs.NextLemmas.Finding.{found_from}
use Rattle.mc_find_paths.proofs.next.unfolding.at_start.Goals as goal

pub returns-then-starts_at : goal.returns-then-starts_at
returns-then-starts_at c = λ know tells.
    let item : EdgeId × Edge = c.edge-item.result in
    let node = c.args.node in
    let place = c.loop-edge.edge-index in
    let same = c.edges-edge-items.ensures in
    let less : place < length c.args.state.now.graph.edges = subst (λ (es : Edges). place < length es) same c.loop-edge-test.true in
    let is : item ≡ get_or c.args.state.now.graph.edges place item = subst (λ (es : Edges). item ≡ get_or es place item) same c.edge-item.is in
    let first = found_from (starts_at know node) c.args.state.now.graph.edges place item less is (sym (c.if-starts_at.ensures know tells)) in
    c.from_start.ensures ∙ ap (λ (e : Option (EdgeId × Edge)). option_and_then from_start e) (sym first ∙ c.loop-edge.invariant know tells)
