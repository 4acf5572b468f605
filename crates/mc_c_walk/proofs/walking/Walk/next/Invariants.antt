use Rattle.std.proofs.Common.{◌≡◌}
use Rattle.mc_c_types.specs.Held.{tables_held}
use Rattle.mc_c_walk.specs.Tasks.{rest, tasks_steps}
use Rattle.mc_c_walk.proofs.walking.Walk.next.Given as goal

abbrev pub invariant-loop-task : goal.invariant-loop-task
invariant-loop-task l = rest (tables_held l.tables) l.initial.self ≡ rest (tables_held l.tables) l.self

abbrev pub decreases-loop-task : goal.decreases-loop-task
decreases-loop-task l = tasks_steps l.self.tasks
