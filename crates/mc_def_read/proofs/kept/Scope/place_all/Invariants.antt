use Rattle.std.proofs.Common.{◌≡◌, drop}
use Rattle.mc_def_read.specs.Judging.{placed}
use Rattle.mc_def_read.specs.Scopes.{scope_of}
use Rattle.mc_def_read.proofs.kept.Scope.place_all.Given as goal

abbrev pub invariant-loop-i : goal.invariant-loop-i
invariant-loop-i l = placed l.block (scope_of l.initial.self) l.fields l.held ≡ placed l.block (scope_of l.self) (drop l.i l.fields) (drop l.i l.held)
