use Rattle.std.proofs.Common.{◌≡◌, sym, subst}
use Rattle.mc_pure.specs.Pure.{IsNode}
use Rattle.mc_state.specs.State.{State}
use Rattle.mc_apply_steps.proofs.InstructionsLemmas.Made.{shape_there}
use Rattle.mc_apply_steps.proofs.instructions.shapes.put_shape.Goals as goal

pub add_edge-requires : goal.add_edge-requires
add_edge-requires c =
    shape_there c.nodes_are_there.ensures.kinds c.args.s.now c.add_node.new.self c.in_ok-at.at c.args.args c.is_bounded.ensures.bounded c.in_ok-at.ensures.ok c.in_ok-at.ensures.node c.requires

pub set_var-requires : goal.set_var-requires
set_var-requires c n e =
    let at = c.in_ok-at.at in
    let there = shape_there c.nodes_are_there.ensures.kinds c.args.s.now c.add_node.new.self at c.args.args c.is_bounded.ensures.bounded c.in_ok-at.ensures.ok c.in_ok-at.ensures.node c.requires in
    let same : at ≡ n = cc e in
    subst (λ (u : State). IsNode u.kinds n) (sym c.in_ok-add_edge.ensures.ok) (subst (IsNode c.add_node.new.self.kinds) same there.0)
