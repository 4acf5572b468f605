use Rattle.std.proofs.Common.{◌≡◌, take}
use Rattle.mc_apply_fold.specs.Forget.Left.{with_atoms}
use Rattle.mc_apply_fold.proofs.forget.forgetting.put_atoms.Given as goal

abbrev pub invariant-loop-atom : goal.invariant-loop-atom
invariant-loop-atom l = l.pure ≡ with_atoms l.fn.pure (take l.atom-index l.atoms)
