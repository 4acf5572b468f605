use Rattle.std.proofs.Common.{◌≡◌, ◌∙◌, [], ◌∷◌, Some, sym, subst}
use Rattle.mc_base.specs.declared.ids.NodeId.{NodeId}
use Rattle.mc_base.specs.declared.plain.Kind.TheVariants.{Int}
use Rattle.mc_pure.specs.Pure.{HasKind}
use Rattle.mc_state.specs.State.{State, next_node, with_nodes}
use Rattle.mc_apply_steps.proofs.ComputeLemmas.Put.{same_range}
use Rattle.mc_apply_steps.proofs.compute.sums.compute_in.Goals as goal

pub assume_computed-requires : goal.assume_computed-requires
assume_computed-requires c =
    let s = c.args.s.now in
    let t = with_nodes s (Int ∷ []) in
    let law = c.nodes_are_there.ensures.kinds s (Int ∷ []) c.is_bounded.ensures.bounded in
    let new = c.in_ok-put_new.ensures in
    let n = c.next_node-node.result in
    let node : HasKind t.kinds Int n = subst (λ (m : NodeId). HasKind t.kinds Int m) (sym c.next_node-node.ensures) law.0.0 in
    record {
      first = (Int, subst (λ (u : State). HasKind u.kinds Int n) (sym new) node, subst (λ (u : State). HasKind u.kinds Int c.args.a) (sym new) (law.1 Int c.args.a c.requires.left));
      second = (Int, subst (λ (u : State). HasKind u.kinds Int n) (sym new) node, subst (λ (u : State). HasKind u.kinds Int c.args.b) (sym new) (law.1 Int c.args.b c.requires.right));
      left = c.int_range-left.ensures.ints;
      right = c.int_range-right.ensures.ints;
    }

pub returns : goal.returns
returns c = λ range l r.
    let s = c.args.s.now in
    let first = same_range c.least_ranges_are_known.ensures.once range s c.args.a c.int_range-left.result c.int_range-left.ensures.least l in
    let second = same_range c.least_ranges_are_known.ensures.once range s c.args.b c.int_range-right.result c.int_range-right.ensures.least r in
    let new = c.in_ok-put_new.ensures in
    let node = c.next_node-node.ensures in
    let written = c.in_ok-assume_computed.ensures in
    cc
