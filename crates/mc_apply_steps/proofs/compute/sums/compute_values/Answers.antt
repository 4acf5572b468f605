use Rattle.std.proofs.Common.{◌≡◌, ◌∙◌, ap, sym}
use Rattle.mc_base.specs.declared.ids.NodeId.{NodeId}
use Rattle.mc_base.specs.declared.plain.Kind.TheVariants.{Int}
use Rattle.mc_pure.specs.Pure.{HasKind}
use Rattle.mc_state.specs.Facts.{IsFalse}
use Rattle.mc_state.specs.State.{State}
use Rattle.mc_rules_steps.specs.Sums.{IsLeast, Ranges, with_result}
use Rattle.mc_apply_steps.specs.Step.Values.{value_node, with_value}
use Rattle.mc_apply_steps.specs.Compute.Computed.{operation}
use Rattle.mc_apply_steps.proofs.ComputeLemmas.Put.{carried}
use Rattle.mc_apply_steps.proofs.compute.sums.compute_values.Goals as goal

pub compute_in-requires : goal.compute_in-requires
compute_in-requires c =
    let s = c.args.s.now in
    let v = c.args.left.now in
    let w = c.args.right.now in
    let t = with_value (with_value s v) w in
    let one = c.in_ok-a.ensures in
    let two = c.in_ok-b.ensures in
    let state : t ≡ c.put-2.new.s = sym (two.state ∙ ap (λ (u : State). with_value u w) one.state) in
    let second : value_node (with_value s v) w ≡ c.in_ok-b.b = sym (two.node ∙ ap (λ (u : State). value_node u w) one.state) in
    record {
      left = carried (λ u a b. HasKind u.kinds Int a) t c.put-2.new.s (value_node s v) c.in_ok-a.a (value_node (with_value s v) w) c.in_ok-b.b state (sym one.node) second c.requires.left;
      right = carried (λ u a b. HasKind u.kinds Int b) t c.put-2.new.s (value_node s v) c.in_ok-a.a (value_node (with_value s v) w) c.in_ok-b.b state (sym one.node) second c.requires.right;
      not_false = carried (λ u a b. IsFalse u → ⊥) t c.put-2.new.s (value_node s v) c.in_ok-a.a (value_node (with_value s v) w) c.in_ok-b.b state (sym one.node) second c.requires.not_false;
    }

pub returns : goal.returns
returns c =
    let s = c.args.s.now in
    let v = c.args.left.now in
    let w = c.args.right.now in
    let t = with_value (with_value s v) w in
    let one = c.in_ok-a.ensures in
    let two = c.in_ok-b.ensures in
    let state = two.state ∙ ap (λ (u : State). with_value u w) one.state in
    let second = two.node ∙ ap (λ (u : State). value_node u w) one.state in
    let op = operation c.args.op in
    carried (λ u a b. (range : Ranges) → IsLeast range u a → IsLeast range u b → c.compute_in.new.s ≡ with_result op c.args.x a b (range u a) (range u b) u)
    c.put-2.new.s t c.in_ok-a.a (value_node s v) c.in_ok-b.b (value_node (with_value s v) w) state one.node second c.in_ok-compute_in.ensures
