use Rattle.std.proofs.Common.{◌≡◌, ◌<◌, inl, inr, length, get_or, refl, sym, ap, subst, ◌∙◌, arith}
use Rattle.mc_base.specs.declared.ids.EdgeId.{EdgeId}
use Rattle.mc_base.specs.declared.ids.NodeId.{NodeId}
use Rattle.mc_state.specs.declared.graph.edge.Edge.{Edge}
use Rattle.mc_state.specs.Graph.Edges.{start_of}
use Rattle.mc_state.specs.Facts.{AreEqual}
use Rattle.mc_symbolic.proofs.Finding.{item_at, one_item, never}
use Rattle.mc_symbolic.proofs.reached.open_at.Goals as goal

pub returns-then-not-are_equal : goal.returns-then-not-are_equal
returns-then-not-are_equal c =
    let es = c.args.state.now.graph.edges in
    let x = get_or c.edges.result.now c.args.place c.index-edges-place.result in
    let p = item_at es c.edges.result.now c.args.place x c.index-edges-place.result c.edges.ensures c.requires.there refl in
    inl (
      refl,
      refl,
      inr (λ e t q.
          let m = ap (λ (z : EdgeId × Edge). start_of z.1) (one_item es c.args.place e x t p) ∙ sym c.start.ensures in
          never (c.if-not-are_equal.ensures.derived.1 (subst (λ (z : NodeId). AreEqual c.args.state.now z c.args.node) m q))),
    )

pub returns : goal.returns
returns c =
    let es = c.args.state.now.graph.edges in
    let x = get_or c.edges.result.now c.args.place c.index-edges-place.result in
    let p = item_at es c.edges.result.now c.args.place x c.index-edges-place.result c.edges.ensures c.requires.there refl in
    let there = c.requires.there in
    let long = c.requires.long in
    let inside : c.args.place < length c.args.used.now.items = omega arith in
    let free = item_at c.args.used.now.items c.args.used.now.items c.args.place _ _ refl inside (sym c.if-index.false ∙ c.index.ensures) in
    let q = subst (λ (z : NodeId). AreEqual c.args.state.now z c.args.node) c.start.ensures (c.if-not-are_equal.ensures.derived.0 refl) in
    inr (x, p, q, free, c.in_ok-push_nodes.ensures, refl)
