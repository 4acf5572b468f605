use Rattle.std.proofs.Common.{◌≡◌}
use Rattle.mc_c_syntax.specs.Ast.Views.{condition_of}
use Rattle.mc_c_types.specs.Faults.{condition_faults}
use Rattle.mc_c_types.specs.First.{told_of}
use Rattle.mc_c_types.specs.Held.{tables_held, variables_held, conditions_faults}
use Rattle.mc_c_types.specs.Sizes.{conditions_size}
use Rattle.mc_c_types.proofs.expressions.VisibleNames.check_condition.Given as goal

abbrev pub invariant-loop-current : goal.invariant-loop-current
invariant-loop-current l =
    told_of l.told.fault (conditions_faults (tables_held l.self.tables.now) (variables_held l.self.scope.now) l.stack)
    ≡ told_of l.initial.told.fault (condition_faults (tables_held l.self.tables.now) (variables_held l.self.scope.now) (condition_of l.condition))

abbrev pub decreases-loop-current : goal.decreases-loop-current
decreases-loop-current l = conditions_size l.stack
