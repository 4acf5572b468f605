use Rattle.std.proofs.Common.{◌≡◌, take}
use Rattle.std.specs.Prelude.{not, filter}
use Rattle.mc_cover.specs.Marks.{ids_of}
use Rattle.mc_replay.specs.Seen.{may_fold}
use Rattle.mc_replay.proofs.edges.ids_without.Given as goal

abbrev pub invariant-loop-entry : goal.invariant-loop-entry
invariant-loop-entry l = l.ids.items ≡ ids_of (filter (λ e. not (may_fold l.used l.pairs l.side l.pair e)) (take l.entry-index l.edges))
