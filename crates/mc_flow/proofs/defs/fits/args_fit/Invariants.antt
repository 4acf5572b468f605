use Rattle.std.proofs.Common.{◌≡◌, length}
use Rattle.std.specs.Prelude.{drop, ◌↔◌}
use Rattle.mc_flow.specs.Defs.Conditions.{ArgsFit}
use Rattle.mc_flow.proofs.defs.fits.args_fit.Given as goal

abbrev pub invariant-loop-i : goal.invariant-loop-i
invariant-loop-i l = (length l.args ≡ length l.params) × (ArgsFit l.names l.args l.params ↔ ArgsFit l.names (drop l.i l.args) (drop l.i l.params))
