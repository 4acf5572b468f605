use Rattle.std.proofs.Common.{◌≡◌, ◌+◌, ◌++◌, List, map, drop}
use Rattle.mc_semantics.specs.Resolved.Views.{initial_of}
use Rattle.mc_lower_spec.specs.declared.length.statements.Waiting.{Waiting}
use Rattle.mc_lower_spec.specs.Length.Lengths.{declaring, items_declared}
use Rattle.mc_lower_spec.specs.Length.Waiting.{left}
use Rattle.mc_lower_spec.proofs.length.statements.Counter.declare.Given as goal

abbrev pub invariant-loop-at : goal.invariant-loop-at
invariant-loop-at l =
    (tasks : List Waiting) → l.self.points + declaring l.self.table.now (map initial_of (drop l.at l.items))
    + left l.self.table.now (l.self.made.items ++ items_declared (map initial_of (drop l.at l.items))) l.self.blocks.items tasks
    ≡ l.fn.self.points + declaring l.fn.self.table.now (map initial_of l.items) + left l.fn.self.table.now (l.fn.self.made.items ++ items_declared (map initial_of l.items)) l.fn.self.blocks.items tasks
