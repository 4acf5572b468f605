use Rattle.std.proofs.Common.{◌≡◌, sym, ◌∙◌, ap, subst}
use Rattle.std.specs.List.{insert}
use Rattle.mc_pure.specs.Pure.{Kinds}
use Rattle.mc_pure.specs.Nodes.{RiseFrom}
use Rattle.mc_pure.specs.Rows.{nodes_of}
use Rattle.mc_pure.specs.Steps.{kind_row}
use Rattle.mc_pure.specs.Known.{pure_of, with_node}
use Rattle.mc_pure.proofs.Growing.{closed_true, closed_false, closed_as, closed_as_false}
use Rattle.mc_pure.proofs.Inserting.{node_fit, node_false, node_sound, node_stable}
use Rattle.mc_pure.proofs.whole.Pure.node.Goals as goal

pub invariant_of-self-in-Continue-branch-3 : goal.invariant_of-self-in-Continue-branch-3
invariant_of-self-in-Continue-branch-3 c =
    let p = pure_of c.self.inside.known in
    let fresh = rw (← c.self.view_is) at c.requires in
    let k = closed_false p c.self.inside.rows.items c.self.inside.wrong c.self.invariant.1 c.if-not-self.true in
    let fit = c.self.invariant.0 in
    let e = c.in_ok-place.ensures.kinds in
    let rise = subst (λ (z : Kinds). RiseFrom 1 z) e c.in_ok-place.ensures.rise in
    let nodes = ap (λ (z : Kinds). nodes_of z) (sym e) ∙ c.in_ok-place.ensures.place in
    let items : c.insert.new.self.items ≡ insert c.self.inside.rows.items c.in_ok-place.place (kind_row (c.args.node, c.args.kind)) = c.in_ok-insert.ensures.items ∙ cc (c.in_ok-reserve.ensures.items, c.start_row.ensures) in
    let sound = node_sound p c.args.node c.args.kind fresh c.self.inside.rows.items c.in_ok-place.place k.0 fit rise nodes in
    let stable = node_stable p c.args.node c.args.kind fresh c.self.inside.rows.items c.in_ok-place.place k.0 fit rise nodes k.1 in
    rw (e, items) (node_fit p c.args.node c.args.kind fresh fit, closed_as_false (with_node p c.args.node c.args.kind) _ c.self.inside.wrong c.if-not-self.true (sound, stable))

pub invariant_of-self-else-not-self : goal.invariant_of-self-else-not-self
invariant_of-self-else-not-self c =
    let p = pure_of c.self.inside.known in
    let fresh = rw (← c.self.view_is) at c.requires in
    let k = closed_true p c.self.inside.rows.items c.self.inside.wrong c.self.invariant.1 c.if-not-self.false in
    rw c.in_ok-place.ensures.kinds (node_fit p c.args.node c.args.kind fresh c.self.invariant.0, closed_as (with_node p c.args.node c.args.kind) _ c.self.inside.wrong c.if-not-self.false (node_false p c.args.node c.args.kind fresh k))
