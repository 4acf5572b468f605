use Rattle.std.proofs.Common.{List, sym, ◌∙◌, subst, refl}
use Rattle.mc_base.specs.declared.ids.NodeId.{NodeId}
use Rattle.mc_pure.specs.Pure.{Kinds}
use Rattle.mc_pure.specs.Rows.{nodes_of}
use Rattle.mc_pure.specs.Nodes.{DoRise}
use Rattle.mc_pure.proofs.Placing.{do_rise, is_node, not_there}
use Rattle.mc_pure.proofs.nodes.Nodes.place.Goals as goal

pub place_in-place-requires : goal.place_in-place-requires
place_in-place-requires c =
    let e = c.as_slice-nodes.ensures.value ∙ c.self.invariant.0 in
    subst (λ (z : List NodeId). DoRise z) (sym e) (do_rise c.self.inside.kinds.items c.self.invariant.1)

pub returns-else-stands_at-2-clause-at : goal.returns-else-stands_at-2-clause-at
returns-else-stands_at-2-clause-at c =
    let e = c.as_slice-nodes.ensures.value ∙ c.self.invariant.0 in
    let k = not_there c.self.inside.kinds.items c.args.node c.place_in-place.result (do_rise c.self.inside.kinds.items c.self.invariant.1) (rw e at c.place_in-place.ensures.place) (rw e at (c.if-stands_at-2.ensures.no refl)) in
    rw (← c.self.view_is) k

pub returns-then-stands_at-clause-there : goal.returns-then-stands_at-clause-there
returns-then-stands_at-clause-there c =
    let e = c.as_slice-nodes.ensures.value ∙ c.self.invariant.0 in
    rw (← c.self.view_is) (is_node 1 c.self.inside.kinds.items c.self.invariant.1 c.args.node.0 c.args.node (rw e at (c.if-stands_at.ensures.yes refl)))

pub returns-then-stands_at-2-clause-there : goal.returns-then-stands_at-2-clause-there
returns-then-stands_at-2-clause-there c =
    let e = c.as_slice-nodes.ensures.value ∙ c.self.invariant.0 in
    rw (← c.self.view_is) (is_node 1 c.self.inside.kinds.items c.self.invariant.1 c.place_in-place.result c.args.node (rw e at (c.if-stands_at-2.ensures.yes refl)))

pub returns-then-stands_at-clause-rise : goal.returns-then-stands_at-clause-rise
returns-then-stands_at-clause-rise c = subst (λ (z : Kinds). DoRise (nodes_of z)) c.self.view_is (do_rise c.self.inside.kinds.items c.self.invariant.1)

pub returns-then-stands_at-2-clause-rise : goal.returns-then-stands_at-2-clause-rise
returns-then-stands_at-2-clause-rise c = subst (λ (z : Kinds). DoRise (nodes_of z)) c.self.view_is (do_rise c.self.inside.kinds.items c.self.invariant.1)

pub returns-else-stands_at-2-clause-rise : goal.returns-else-stands_at-2-clause-rise
returns-else-stands_at-2-clause-rise c = subst (λ (z : Kinds). DoRise (nodes_of z)) c.self.view_is (do_rise c.self.inside.kinds.items c.self.invariant.1)
