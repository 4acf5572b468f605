use Rattle.std.proofs.Common.{◌≡◌, ◌∷◌, [], ◌++◌, drop}
use Rattle.std.specs.List.{flat_map}
use Rattle.mc_state_io.specs.Text.Text.{node_text}
use Rattle.mc_state_io.proofs.text.edges.push_nodes.Given as goal

abbrev pub invariant-loop-node : goal.invariant-loop-node
invariant-loop-node l = l.out.items ++ flat_map (λ n. (44 ∷ []) ++ node_text n) (drop l.node-index l.others) ≡ l.initial.out.items ++ flat_map (λ n. (44 ∷ []) ++ node_text n) l.others
