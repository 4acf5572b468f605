use Rattle.std.proofs.Common.{◌≡◌, ◌++◌, drop}
use Rattle.mc_rules_logic.specs.Unfold.Unfolded.{equal_atoms}
use Rattle.mc_apply_unfold.proofs.opening.put_equal.Given as goal

abbrev pub invariant-loop-i : goal.invariant-loop-i
invariant-loop-i l =
    l.atoms.items ++ equal_atoms (drop l.i l.left) (drop l.i l.right) ≡ l.fn.atoms.items ++ equal_atoms l.left l.right
