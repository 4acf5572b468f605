use Rattle.std.proofs.Common.{List, sym, ◌∙◌, ap, subst}
use Rattle.std.specs.List.{insert}
use Rattle.mc_base.specs.declared.ids.NodeId.{NodeId}
use Rattle.mc_pure.specs.Pure.{Kinds}
use Rattle.mc_pure.specs.Rows.{nodes_of}
use Rattle.mc_pure.specs.Nodes.{DoRise}
use Rattle.mc_pure.proofs.Placing.{do_rise, added_kinds, added_nodes, added_rise}
use Rattle.mc_pure.proofs.nodes.Nodes.add.Goals as goal

pub place_in-place-requires : goal.place_in-place-requires
place_in-place-requires c =
    let e = c.as_slice.ensures.value ∙ c.self.invariant.0 in
    subst (λ (z : List NodeId). DoRise z) (sym e) (do_rise c.self.inside.kinds.items c.self.invariant.1)

pub invariant_of-self-2 : goal.invariant_of-self-2
invariant_of-self-2 c =
    let e = c.as_slice.ensures.value ∙ c.self.invariant.0 in
    let h = rw (← c.self.view_is) at c.requires.fresh in
    let p = rw e at c.place_in-place.ensures.place in
    let l = rw e at c.place_in-place.ensures.bound in
    let k = c.in_ok-insert.ensures.items in
    let m = c.in_ok-insert-2.ensures.items ∙ ap (λ (z : List NodeId). insert z c.place_in-place.result c.args.node) (c.in_ok-reserve.ensures.items ∙ c.self.invariant.0) in
    rw (k, m) (added_nodes c.self.inside.kinds.items c.args.node c.args.kind c.self.invariant.1 h c.place_in-place.result p l, added_rise c.self.inside.kinds.items c.args.node c.args.kind c.self.invariant.1 h c.place_in-place.result p l)

pub returns-clause-kinds : goal.returns-clause-kinds
returns-clause-kinds c =
    let e = c.as_slice.ensures.value ∙ c.self.invariant.0 in
    let h = rw (← c.self.view_is) at c.requires.fresh in
    let p = rw e at c.place_in-place.ensures.place in
    let l = rw e at c.place_in-place.ensures.bound in
    rw (← c.self.view_is) (c.in_ok-insert.ensures.items ∙ added_kinds c.self.inside.kinds.items c.args.node c.args.kind c.self.invariant.1 h c.place_in-place.result p l)

pub returns-clause-place : goal.returns-clause-place
returns-clause-place c =
    let e = c.as_slice.ensures.value ∙ c.self.invariant.0 in
    let h = rw (← c.self.view_is) at c.requires.fresh in
    let p = rw e at c.place_in-place.ensures.place in
    let l = rw e at c.place_in-place.ensures.bound in
    rw (← c.self.view_is) (ap (λ (z : Kinds). nodes_of z) c.in_ok-insert.ensures.items ∙ sym (added_nodes c.self.inside.kinds.items c.args.node c.args.kind c.self.invariant.1 h c.place_in-place.result p l))

pub returns-clause-rise : goal.returns-clause-rise
returns-clause-rise c =
    let e = c.as_slice.ensures.value ∙ c.self.invariant.0 in
    let h = rw (← c.self.view_is) at c.requires.fresh in
    let p = rw e at c.place_in-place.ensures.place in
    let l = rw e at c.place_in-place.ensures.bound in
    rw c.in_ok-insert.ensures.items (added_rise c.self.inside.kinds.items c.args.node c.args.kind c.self.invariant.1 h c.place_in-place.result p l)
