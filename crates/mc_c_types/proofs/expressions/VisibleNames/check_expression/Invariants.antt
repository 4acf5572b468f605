use Rattle.std.proofs.Common.{◌≡◌}
use Rattle.mc_c_syntax.specs.Ast.Views.{expression_of}
use Rattle.mc_c_types.specs.Faults.{expression_faults}
use Rattle.mc_c_types.specs.First.{told_of}
use Rattle.mc_c_types.specs.Held.{tables_held, variables_held, expressions_faults}
use Rattle.mc_c_types.specs.Sizes.{expressions_size}
use Rattle.mc_c_types.proofs.expressions.VisibleNames.check_expression.Given as goal

abbrev pub invariant-loop-current : goal.invariant-loop-current
invariant-loop-current l =
    told_of l.told.fault (expressions_faults (tables_held l.self.tables.now) (variables_held l.self.scope.now) l.stack)
    ≡ told_of l.initial.told.fault (expression_faults (tables_held l.self.tables.now) (variables_held l.self.scope.now) (expression_of l.expression))

abbrev pub decreases-loop-current : goal.decreases-loop-current
decreases-loop-current l = expressions_size l.stack
