use Rattle.std.proofs.Common.{◌≡◌, sym, subst}
use Rattle.mc_base.specs.declared.plain.Kind.TheVariants.{Ptr}
use Rattle.mc_pure.specs.Pure.{IsNode}
use Rattle.mc_state.specs.State.{State}
use Rattle.mc_apply_steps.proofs.StepLemmas.There.{block_there, new_there}
use Rattle.mc_apply_steps.proofs.step.blocks.allocated.Goals as goal

pub add_edge-requires : goal.add_edge-requires
add_edge-requires c =
    let s = c.args.s.now in
    let at = c.in_ok-at.at in
    let there = new_there c.nodes_are_there.ensures.kinds s c.add_node.new.self Ptr at c.is_bounded.ensures.bounded c.in_ok-at.ensures.ok c.in_ok-at.ensures.node in
    block_there c.add_node.new.self.kinds at c.args.shape c.args.fields c.in_ok-edge.edge there c.in_ok-edge.ensures

pub set_var-requires : goal.set_var-requires
set_var-requires c n e =
    let s = c.args.s.now in
    let at = c.in_ok-at.at in
    let there = new_there c.nodes_are_there.ensures.kinds s c.add_node.new.self Ptr at c.is_bounded.ensures.bounded c.in_ok-at.ensures.ok c.in_ok-at.ensures.node in
    let same : at ≡ n = cc e in
    subst (λ (u : State). IsNode u.kinds n) (sym c.in_ok-add_edge.ensures.ok) (subst (IsNode c.add_node.new.self.kinds) same there)
