use Rattle.std.proofs.Common.{◌≡◌, drop}
use Rattle.mc_state.specs.Graph.Edges.{known_nodes}
use Rattle.mc_rules_logic.specs.Fold.ChangeJudges.{is_listed}
use Rattle.mc_apply_fold.proofs.forget.named.is_known.Given as goal

abbrev pub invariant-loop-field : goal.invariant-loop-field
invariant-loop-field l = is_listed l.node (known_nodes l.fields) ≡ is_listed l.node (known_nodes (drop l.field-index l.fields))
