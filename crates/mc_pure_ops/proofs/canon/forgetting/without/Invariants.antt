use Rattle.mc_pure.specs.Canonical.{IsLeast}
use Rattle.mc_pure_ops.specs.Canon.Forgotten.{IsHeirBelow}
use Rattle.mc_pure_ops.proofs.canon.forgetting.without.Given as goal

abbrev pub invariant-loop-other : goal.invariant-loop-other
invariant-loop-other l = IsLeast l.pure l.lost → IsHeirBelow l.pure l.lost l.other-items l.other-index l.heir
