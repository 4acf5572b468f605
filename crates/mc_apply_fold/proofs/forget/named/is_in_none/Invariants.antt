use Rattle.std.proofs.Common.{◌≡◌, drop, not}
use Rattle.std.specs.List.{list_all}
use Rattle.mc_state.specs.Graph.Edges.{nodes_of}
use Rattle.mc_rules_logic.specs.Fold.ChangeJudges.{is_listed}
use Rattle.mc_apply_fold.proofs.forget.named.is_in_none.Given as goal

abbrev pub invariant-loop-entry : goal.invariant-loop-entry
invariant-loop-entry l =
    list_all (λ e. not (is_listed l.node (nodes_of e.1))) l.edges ≡ list_all (λ e. not (is_listed l.node (nodes_of e.1))) (drop l.entry-index l.edges)
