use Rattle.std.proofs.Common.{◌≡◌, drop}
use Rattle.mc_def_read.specs.Judging.{items}
use Rattle.mc_def_read.specs.Scopes.{body_of, setting_of}
use Rattle.mc_def_read.proofs.body.Body.items.Given as goal

abbrev pub invariant-loop-one : goal.invariant-loop-one
invariant-loop-one l = items (setting_of l.setting) l.guarded (body_of l.initial.self) l.list ≡ items (setting_of l.setting) l.guarded (body_of l.self) (drop l.one-index l.list)
