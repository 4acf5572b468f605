use Rattle.std.proofs.Common.{◌≡◌, drop}
use Rattle.mc_rules_logic.specs.Fold.ChangeJudges.{is_listed}
use Rattle.mc_apply_fold.proofs.forget.named.is_among.Given as goal

abbrev pub invariant-loop-other : goal.invariant-loop-other
invariant-loop-other l = is_listed l.node l.nodes ≡ is_listed l.node (drop l.other-index l.nodes)
