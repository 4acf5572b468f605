use Rattle.mc_c_syntax.specs.Ast.Views.{expression_of}
use Rattle.mc_c_types.specs.Faults.{expression_faults, no_pointer}
use Rattle.mc_c_types.specs.Held.{tables_held, variables_held}
use Rattle.mc_c_check.proofs.Rows.{noted_two}
use Rattle.mc_c_check.proofs.bodies.check_freed.Goals as goal

pub returns : goal.returns
returns c =
    noted_two c.args.told.now.fault c.check_expression.new.told.fault c.want_pointer.new.told.fault
    (expression_faults (tables_held c.args.sight.tables.now) (variables_held c.args.sight.scope.now) (expression_of c.args.pointer.now))
    (no_pointer (tables_held c.args.sight.tables.now) (variables_held c.args.sight.scope.now) (expression_of c.args.pointer.now))
    c.in_ok-check_expression.ensures c.want_pointer.ensures
