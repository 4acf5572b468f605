use Rattle.std.proofs.Common.{◌≡◌, ◌++◌, drop}
use Rattle.mc_document.specs.Places.{cuts_of}
use Rattle.mc_find.proofs.accepted.cuts_in.Given as goal

abbrev pub invariant-loop-line : goal.invariant-loop-line
invariant-loop-line l = l.cuts.items ++ cuts_of (drop l.line-index l.lines) ≡ cuts_of l.lines
