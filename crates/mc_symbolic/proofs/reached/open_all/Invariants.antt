use Rattle.std.proofs.Common.{◌≡◌, length}
use Rattle.mc_symbolic.specs.Reached.{Opens}
use Rattle.mc_symbolic.proofs.reached.open_all.Given as goal

abbrev pub invariant-loop-place : goal.invariant-loop-place
invariant-loop-place l = (length l.used.items ≡ length l.state.graph.edges) × Opens l.state l.node l.place l.fn.found.items l.fn.used.items l.found.items l.used.items
