use Rattle.std.proofs.Common.{flat_map}
use Rattle.mc_c_syntax.specs.Ast.Views.{call_of, expressions_of}
use Rattle.mc_c_types.specs.Faults.{callee_faults, expression_faults}
use Rattle.mc_c_types.specs.Tables.{called_function}
use Rattle.mc_c_types.proofs.Orders.{told_then}
use Rattle.mc_c_types.specs.Held.{tables_held, variables_held}
use Rattle.mc_c_types.proofs.expressions.VisibleNames.check_call.Goals as goal

pub returns : goal.returns
returns c =
    rw c.in_ok-check_expressions.ensures
    (rw c.check_callee.ensures
    (rw c.called_function-callee.ensures (rw c.as_slice.ensures.value
    (told_then c.args.told.now.fault (callee_faults (tables_held c.args.self.now.tables.now) (variables_held c.args.self.now.scope.now) (call_of c.args.call.now) (called_function (tables_held c.args.self.now.tables.now) c.args.call.now.function.text)) (flat_map (expression_faults (tables_held c.args.self.now.tables.now) (variables_held c.args.self.now.scope.now)) (expressions_of c.args.call.now.arguments.items))))))
