use Rattle.std.proofs.Common.{◌≡◌, drop}
use Rattle.mc_state.specs.Known.{Test, Tells}
use Rattle.mc_cover.specs.Goals.{whole_block}
use Rattle.mc_find_view.proofs.GuessLemmas.Firsts.{first_free}
use Rattle.mc_find_view.proofs.guess.blocks.block.Given as goal

abbrev pub invariant-loop-entry : goal.invariant-loop-entry
invariant-loop-entry l =
    (know : Test) → Tells know l.state
    → first_free l.used (whole_block know l.at l.shape) l.state.graph.edges ≡ first_free l.used (whole_block know l.at l.shape) (drop l.entry-index l.state.graph.edges)
