use Rattle.std.proofs.Common.{◌≡◌, drop, map}
use Rattle.mc_c_syntax.specs.Ast.Views.{expression_of}
use Rattle.mc_c_types.specs.Faults.{argument_faults}
use Rattle.mc_c_types.specs.First.{told_of}
use Rattle.mc_c_types.specs.Held.{tables_held, variables_held}
use Rattle.mc_c_types.proofs.expressions.VisibleNames.check_arguments.Given as goal

abbrev pub invariant-loop-i : goal.invariant-loop-i
invariant-loop-i l =
    told_of l.told.fault (argument_faults (tables_held l.self.tables.now) (variables_held l.self.scope.now) (drop l.i l.parameters) (map expression_of (drop l.i l.arguments)))
    ≡ told_of l.initial.told.fault (argument_faults (tables_held l.self.tables.now) (variables_held l.self.scope.now) l.parameters (map expression_of l.arguments))
