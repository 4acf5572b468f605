use Rattle.std.proofs.Common.{drop}
use Rattle.std.specs.List.{AllByRecursion}
use Rattle.mc_state.specs.Facts.{IsTidy}
use Rattle.mc_replay.specs.Changes.{states_held}
use Rattle.mc_replay.proofs.changes.are_tidy.Given as goal

abbrev pub invariant-loop-state : goal.invariant-loop-state
invariant-loop-state l = AllByRecursion IsTidy (states_held (drop l.state-index l.states)) → AllByRecursion IsTidy (states_held l.states)
