use Rattle.std.proofs.Common.{◌≡◌, ◌≤◌, ◌+◌, ◌-◌, length}
use Rattle.mc_symbolic.specs.Reached.{Searches, pending}
use Rattle.mc_symbolic.proofs.reached.is_reached.Given as goal

abbrev pub invariant-loop-next : goal.invariant-loop-next
invariant-loop-next l = (l.next ≤ length l.found.items) × Searches l.state l.node l.next l.found.items l.used.items

abbrev pub decreases-loop-next : goal.decreases-loop-next
decreases-loop-next l = (length l.found.items - l.next) + pending l.used.items l.state.graph.edges
