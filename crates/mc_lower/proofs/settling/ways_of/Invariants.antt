use Rattle.std.proofs.Common.{length}
use Rattle.mc_lower.proofs.Marked.{WaysTo}
use Rattle.mc_lower.proofs.settling.ways_of.Given as goal

abbrev pub invariant-loop-at : goal.invariant-loop-at
invariant-loop-at l = WaysTo (length l.lines.points.items) l.lines.labels l.lines.marks.items l.at l.ways.items
