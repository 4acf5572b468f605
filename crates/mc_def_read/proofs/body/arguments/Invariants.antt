use Rattle.std.proofs.Common.{◌≡◌, drop, map}
use Rattle.mc_def_read.specs.Judging.{arguments}
use Rattle.mc_def_read.specs.Scopes.{scope_of}
use Rattle.mc_def_read.proofs.Folds.{behind}
use Rattle.mc_def_read.proofs.body.arguments.Given as goal

abbrev pub invariant-loop-i : goal.invariant-loop-i
invariant-loop-i l = arguments (scope_of l.scope) (map (λ p. p.kind) l.params) l.names ≡ behind l.numbers (arguments (scope_of l.scope) (map (λ p. p.kind) (drop l.i l.params)) (drop l.i l.names))
