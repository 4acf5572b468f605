use Rattle.std.proofs.Common.{◌≡◌, length}
use Rattle.std.specs.Prelude.{drop, ◌↔◌}
use Rattle.mc_flow.proofs.defs.fits.same_kinds.Given as goal

abbrev pub invariant-loop-i : goal.invariant-loop-i
invariant-loop-i l = (length l.left ≡ length l.right) × ((l.left ≡ l.right) ↔ (drop l.i l.left ≡ drop l.i l.right))
