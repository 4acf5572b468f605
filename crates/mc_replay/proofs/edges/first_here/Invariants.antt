use Rattle.std.proofs.Common.{◌≡◌, drop}
use Rattle.std.specs.Prelude.{find}
use Rattle.mc_replay.specs.Seen.{is_here}
use Rattle.mc_replay.proofs.edges.first_here.Given as goal

abbrev pub invariant-loop-entry : goal.invariant-loop-entry
invariant-loop-entry l = find (is_here l.used l.node) l.edges ≡ find (is_here l.used l.node) (drop l.entry-index l.edges)
