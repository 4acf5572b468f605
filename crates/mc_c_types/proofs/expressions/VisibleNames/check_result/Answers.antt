use Rattle.mc_c_syntax.specs.Ast.Views.{call_of}
use Rattle.mc_c_types.specs.Faults.{call_faults, call_fits, unless}
use Rattle.mc_c_types.specs.Tables.{called_function}
use Rattle.mc_c_types.specs.declared.faults.FaultName.TheVariants.{Mismatch}
use Rattle.mc_c_types.proofs.Orders.{told_then}
use Rattle.mc_c_types.specs.Held.{tables_held, variables_held}
use Rattle.mc_c_types.proofs.expressions.VisibleNames.check_result.Goals as goal

pub returns : goal.returns
returns c =
    rw c.unless.ensures
    (rw c.call_fits.ensures
    (rw c.called_function-callee.ensures
    (rw c.in_ok-check_call.ensures
    (told_then c.args.told.now.fault (call_faults (tables_held c.args.self.now.tables.now) (variables_held c.args.self.now.scope.now) (call_of c.args.call.now)) (unless (call_fits (tables_held c.args.self.now.tables.now) c.args.wanted (called_function (tables_held c.args.self.now.tables.now) c.args.call.now.function.text)) Mismatch c.args.call.now.function.place)))))
