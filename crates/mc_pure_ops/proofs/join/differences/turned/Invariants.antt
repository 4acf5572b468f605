use Rattle.std.proofs.Common.{◌≡◌, take}
use Rattle.mc_pure_ops.specs.Join.Parts.{turned}
use Rattle.mc_pure_ops.proofs.join.differences.turned.Given as goal

abbrev pub invariant-loop-pair : goal.invariant-loop-pair
invariant-loop-pair l = l.back.items ≡ turned (take l.pair-index l.pairs)
