use Rattle.std.proofs.Common.{◌≡◌, drop, map, flat_map}
use Rattle.mc_c_syntax.specs.Ast.Views.{expression_of}
use Rattle.mc_c_types.specs.Faults.{expression_faults}
use Rattle.mc_c_types.specs.First.{told_of}
use Rattle.mc_c_types.specs.Held.{tables_held, variables_held}
use Rattle.mc_c_types.proofs.expressions.VisibleNames.check_expressions.Given as goal

abbrev pub invariant-loop-expression : goal.invariant-loop-expression
invariant-loop-expression l =
    told_of l.told.fault (flat_map (expression_faults (tables_held l.self.tables.now) (variables_held l.self.scope.now)) (map expression_of (drop l.expression-index l.expressions)))
    ≡ told_of l.initial.told.fault (flat_map (expression_faults (tables_held l.self.tables.now) (variables_held l.self.scope.now)) (map expression_of l.expressions))
