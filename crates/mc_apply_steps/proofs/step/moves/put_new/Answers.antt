use Rattle.std.proofs.Common.{◌≡◌, sym, subst, ◌∷◌, []}
use Rattle.mc_base.specs.declared.plain.Kind.TheVariants.{Int}
use Rattle.mc_pure.specs.Pure.{HasKind}
use Rattle.mc_state.specs.State.{next_node}
use Rattle.mc_apply_steps.proofs.step.moves.put_new.Goals as goal

pub set_var-requires : goal.set_var-requires
set_var-requires c n e =
    let s = c.args.s.now in
    let made = (c.nodes_are_there.ensures.kinds s (Int ∷ []) c.is_bounded.ensures.bounded).0.0 in
    let here = subst (λ t. HasKind t.kinds Int (next_node s)) (sym c.in_ok-node.ensures.ok) made in
    let node = c.in_ok-node.ensures.node in
    let same : next_node s ≡ n = cc (e, node) in
    (Int, subst (HasKind c.add_node.new.self.kinds Int) same here)
