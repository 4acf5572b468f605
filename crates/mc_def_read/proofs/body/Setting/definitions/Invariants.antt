use Rattle.std.proofs.Common.{◌≡◌, drop}
use Rattle.mc_def_read.specs.Judging.{definitions}
use Rattle.mc_def_read.specs.Scopes.{setting_of}
use Rattle.mc_def_read.proofs.Folds.{behind}
use Rattle.mc_def_read.proofs.body.Setting.definitions.Given as goal

abbrev pub invariant-loop-number : goal.invariant-loop-number
invariant-loop-number l = definitions (setting_of l.self) 0 l.self.file.now ≡ behind l.defs (definitions (setting_of l.self) l.number (drop l.number l.self.file.now))
