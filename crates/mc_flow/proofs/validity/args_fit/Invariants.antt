use Rattle.std.proofs.Common.{◌≡◌, length}
use Rattle.std.specs.Prelude.{drop, ◌↔◌}
use Rattle.mc_flow.specs.Valid.{ArgsFit}
use Rattle.mc_flow.proofs.validity.args_fit.Given as goal

abbrev pub invariant-loop-i : goal.invariant-loop-i
invariant-loop-i l = (length l.args ≡ length l.params) × (ArgsFit l.vars l.args l.params ↔ ArgsFit l.vars (drop l.i l.args) (drop l.i l.params))
