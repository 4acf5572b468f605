use Rattle.std.proofs.Common.{length, map}
use Rattle.mc_run_values.specs.Script.Models.{block}
use Rattle.mc_run.proofs.Blocks.{Left}
use Rattle.mc_run.proofs.shapes.add_blocks.Given as goal

abbrev pub invariant-loop-left : goal.invariant-loop-left
invariant-loop-left l = Left l.initial.heap (map block l.blocks) l.heap (map block l.left)

abbrev pub decreases-loop-left : goal.decreases-loop-left
decreases-loop-left l = length l.left
