use Rattle.std.proofs.Common.{◌≡◌, drop}
use Rattle.std.specs.Prelude.{filter}
use Rattle.mc_cover.specs.Search.Setting.{is_unused}
use Rattle.mc_replay.proofs.whole.is_all_used.Given as goal

abbrev pub invariant-loop-entry : goal.invariant-loop-entry
invariant-loop-entry l = filter (is_unused l.half.used.items) l.entry-items ≡ filter (is_unused l.half.used.items) (drop l.entry-index l.entry-items)
