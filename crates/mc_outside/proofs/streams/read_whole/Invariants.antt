use Rattle.std.proofs.Common.{length, take, ◌-◌, ◌≤◌}
use Rattle.std.specs.Io.KnownBytes.{Consumes}
use Rattle.mc_outside.proofs.streams.read_whole.Given as goal

-- the front of the buffer is what the reader gave
abbrev pub invariant-loop-filled : goal.invariant-loop-filled
invariant-loop-filled g l = record {
  bound : l.filled ≤ length l.buf;
  read : Consumes (g.R.Read.remaining l.fn.from) (g.R.Read.remaining l.from) (take l.filled l.buf);
}

abbrev pub decreases-loop-filled : goal.decreases-loop-filled
decreases-loop-filled g l = length l.initial.buf - l.filled
