use Rattle.mc_c_syntax.specs.Ast.Views.{left_of, right_of}
use Rattle.mc_c_types.specs.Faults.{left_faults, left_type, right_faults}
use Rattle.mc_c_types.proofs.Orders.{told_then}
use Rattle.mc_c_types.specs.Held.{tables_held, variables_held}
use Rattle.mc_c_types.proofs.expressions.VisibleNames.check_assignment.Goals as goal

pub returns : goal.returns
returns c =
    rw c.in_ok-check_right.ensures
    (rw c.left_type.ensures
    (rw c.check_left.ensures (told_then c.args.told.now.fault (left_faults (tables_held c.args.self.now.tables.now) (variables_held c.args.self.now.scope.now) (left_of c.args.left.now)) (right_faults (tables_held c.args.self.now.tables.now) (variables_held c.args.self.now.scope.now) (left_type (tables_held c.args.self.now.tables.now) (variables_held c.args.self.now.scope.now) (left_of c.args.left.now)) (right_of c.args.right.now)))))
