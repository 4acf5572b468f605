use Rattle.std.proofs.Common.{◌≡◌, drop}
use Rattle.std.specs.List.{list_any}
use Rattle.mc_replay.specs.Joined.{is_this}
use Rattle.mc_replay.proofs.joining.Joining.is_closed.Given as goal

abbrev pub invariant-loop-entry : goal.invariant-loop-entry
invariant-loop-entry l = list_any (is_this l.side l.pair) l.self.closed.items ≡ list_any (is_this l.side l.pair) (drop l.entry-index l.self.closed.items)
