use Rattle.std.proofs.Common.{◌≡◌, length, ◌+◌}
use Rattle.std.specs.Prelude.{drop, ◌↔◌}
use Rattle.mc_flow.specs.Defs.Conditions.{numbers_from}
use Rattle.mc_flow.proofs.defs.fits.are_consecutive.Given as goal

abbrev pub invariant-loop-i : goal.invariant-loop-i
invariant-loop-i l =
    (l.numbers ≡ numbers_from l.first (length l.numbers)) ↔ (drop l.i l.numbers ≡ numbers_from (l.first + l.i) (length (drop l.i l.numbers)))
