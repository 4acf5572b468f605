use Rattle.std.proofs.Common.{◌≡◌, drop}
use Rattle.mc_def_read.specs.Judging.{rules}
use Rattle.mc_def_read.specs.Scopes.{scope_of, setting_of}
use Rattle.mc_def_read.proofs.Folds.{behind}
use Rattle.mc_def_read.proofs.body.Setting.rules.Given as goal

abbrev pub invariant-loop-one : goal.invariant-loop-one
invariant-loop-one l = rules (setting_of l.self) (scope_of l.front) l.list ≡ behind l.rules (rules (setting_of l.self) (scope_of l.front) (drop l.one-index l.list))
