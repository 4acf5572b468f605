use Rattle.std.proofs.Common.{◌≡◌, ◌+◌, drop}
use Rattle.mc_lines.specs.Cert.Lines.{line_len}
use Rattle.mc_judge.proofs.judge.pieces.line_len.Given as goal

abbrev pub invariant-loop-b : goal.invariant-loop-b
invariant-loop-b l = record { count : l.n ≡ l.b-index; value : l.n + line_len (drop l.b-index l.bytes) ≡ line_len l.bytes }
