use Rattle.std.proofs.Common.{◌≡◌, drop}
use Rattle.mc_def_read.specs.Judging.{contents}
use Rattle.mc_def_read.specs.Fields.{fields_of}
use Rattle.mc_def_read.specs.Scopes.{held_of}
use Rattle.mc_def_read.proofs.held.Held.hold_all.Given as goal

abbrev pub invariant-loop-number : goal.invariant-loop-number
invariant-loop-number l = contents (fields_of l.names) (held_of l.initial.self) 0 l.list ≡ contents (fields_of l.names) (held_of l.self) l.number (drop l.number l.list)
