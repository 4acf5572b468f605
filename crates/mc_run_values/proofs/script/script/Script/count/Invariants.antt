use Rattle.std.proofs.Common.{◌≡◌, ◌+◌, ◌^◌, ◌<◌, length}
use Rattle.mc_lines.specs.Cert.Lines.{lines_of}
use Rattle.mc_run_values.proofs.script.script.Script.count.Given as goal

abbrev pub invariant-loop-behind : goal.invariant-loop-behind
invariant-loop-behind l = record {
  counted : l.count + length (lines_of l.rest) ≡ length l.self;
  within : l.count + length l.rest < 2 ^ 63;
}

abbrev pub decreases-loop-behind : goal.decreases-loop-behind
decreases-loop-behind l = length l.rest
