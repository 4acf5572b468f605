use Rattle.std.proofs.Common.{◌≡◌}
use Rattle.mc_c_syntax.specs.Ast.Views.{expression_of}
use Rattle.mc_c_types.specs.Faults.{value_type}
use Rattle.mc_c_types.specs.Held.{tables_held, variables_held}
use Rattle.mc_c_types.proofs.expressions.VisibleNames.value_type.Given as goal

abbrev pub invariant-loop-current : goal.invariant-loop-current
invariant-loop-current l =
    value_type (tables_held l.self.tables.now) (variables_held l.self.scope.now) (expression_of l.current) ≡ value_type (tables_held l.self.tables.now) (variables_held l.self.scope.now) (expression_of l.expression)
