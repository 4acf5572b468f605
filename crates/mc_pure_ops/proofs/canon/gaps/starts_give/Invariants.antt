use Rattle.std.proofs.Common.{ℕ, ◌<◌}
use Rattle.mc_pure_ops.specs.Canon.Gaps.{StartGives}
use Rattle.mc_pure_ops.proofs.canon.gaps.starts_give.Given as goal

abbrev pub invariant-loop-i : goal.invariant-loop-i
invariant-loop-i l = (i : ℕ) → i < l.i → StartGives l.pure l.starts l.gap i → ⊥
