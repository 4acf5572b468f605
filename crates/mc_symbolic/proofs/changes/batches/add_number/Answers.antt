use Rattle.std.proofs.Common.{sym, subst, ap, ◌∷◌, []}
use Rattle.mc_base.specs.declared.plain.Kind.TheVariants.{Int}
use Rattle.mc_pure.specs.Pure.{HasKind, IsWellFormed, IsBound}
use Rattle.mc_state.specs.State.{with_nodes, next_node}
use Rattle.mc_symbolic.proofs.changes.batches.add_number.Goals as goal

pub assume-requires : goal.assume-requires
assume-requires c =
    let s = c.args.s.now in
    let made = (c.nodes_are_there.ensures.kinds s (Int ∷ []) c.is_bounded.ensures.bounded).0.0 in
    let here = subst (λ t. HasKind t.kinds Int (next_node s)) (sym c.in_ok-node.ensures.ok) made in
    let there = subst (HasKind c.add_node.new.self.kinds Int) (sym c.in_ok-node.ensures.node) here in
    subst (IsWellFormed c.add_node.new.self.kinds) (sym c.single.ensures) ((Int, there), c.requires, c.requires)
