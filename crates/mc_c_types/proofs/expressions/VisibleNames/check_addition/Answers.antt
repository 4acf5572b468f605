use Rattle.mc_c_syntax.specs.Ast.Views.{left_of, expression_of}
use Rattle.mc_c_types.specs.Faults.{changed_faults, expression_faults, no_int}
use Rattle.mc_c_types.proofs.Orders.{told_three}
use Rattle.mc_c_types.specs.Held.{tables_held, variables_held}
use Rattle.mc_c_types.proofs.expressions.VisibleNames.check_addition.Goals as goal

pub returns : goal.returns
returns c =
    rw c.want_int.ensures
    (rw c.in_ok-check_expression.ensures
    (rw c.check_changed.ensures (told_three c.args.told.now.fault (changed_faults (tables_held c.args.self.now.tables.now) (variables_held c.args.self.now.scope.now) (left_of c.args.left.now)) (expression_faults (tables_held c.args.self.now.tables.now) (variables_held c.args.self.now.scope.now) (expression_of c.args.expression.now)) (no_int (tables_held c.args.self.now.tables.now) (variables_held c.args.self.now.scope.now) (expression_of c.args.expression.now)))))
