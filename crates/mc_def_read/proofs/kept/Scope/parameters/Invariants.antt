use Rattle.std.proofs.Common.{◌≡◌, drop}
use Rattle.mc_def_read.specs.Judging.{parameters}
use Rattle.mc_def_read.specs.Scopes.{scope_of}
use Rattle.mc_def_read.proofs.kept.Scope.parameters.Given as goal

abbrev pub invariant-loop-param : goal.invariant-loop-param
invariant-loop-param l = (l.self.front.now ≡ l.initial.self.front.now) × (parameters (scope_of l.initial.self) l.list ≡ parameters (scope_of l.self) (drop l.param-index l.list))
