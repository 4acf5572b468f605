use Rattle.std.proofs.Common.{◌≡◌, drop, map}
use Rattle.mc_run_values.specs.Script.Models.{block, prefixed}
use Rattle.mc_run_values.specs.Script.Scripts.{blocks_in}
use Rattle.mc_run_values.proofs.script.script.new_blocks.Given as goal

abbrev pub invariant-loop-named : goal.invariant-loop-named
invariant-loop-named l = blocks_in l.structs l.blocks ≡ prefixed (map block l.made.items) (blocks_in l.structs (drop l.named-index l.blocks))
