use Rattle.std.proofs.Common.{◌≡◌, ◌++◌, ◌+◌, drop}
use Rattle.mc_gen.specs.Texts.{blocks_text}
use Rattle.mc_gen.proofs.programs.print_blocks.Given as goal

abbrev pub invariant-loop-i : goal.invariant-loop-i
invariant-loop-i l = l.out.items ++ blocks_text (l.i + 1) (drop l.i l.kinds) ≡ l.initial.out.items ++ blocks_text 1 l.kinds
