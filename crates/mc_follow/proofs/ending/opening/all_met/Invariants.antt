use Rattle.std.proofs.Common.{drop, reverse}
use Rattle.mc_state.specs.Known.{Test, Tells}
use Rattle.mc_follow.specs.Ending.Making.{setting_in}
use Rattle.mc_follow.proofs.EndingLemmas.Leading.{AreOpening}
use Rattle.mc_follow.proofs.ending.opening.all_met.Given as goal

abbrev pub invariant-loop-mark : goal.invariant-loop-mark
invariant-loop-mark l =
    (know : Test) → Tells know l.state → AreOpening (setting_in know l.defs l.state) l.fn.first l.mets.items (drop l.mark-index l.marks) (reverse l.left.items)
