use Rattle.std.proofs.Common.{◌≡◌, drop}
use Rattle.std.specs.List.{find}
use Rattle.mc_state.specs.Known.{Test, Tells}
use Rattle.mc_rules_steps.specs.Judges.{is_block_at}
use Rattle.mc_apply_steps.proofs.step.blocks.block.Given as goal

abbrev pub invariant-loop-e : goal.invariant-loop-e
invariant-loop-e l =
    (know : Test) → Tells know l.s
    → find (is_block_at know l.n) (drop l.e-index l.s.graph.edges) ≡ find (is_block_at know l.n) l.s.graph.edges
