use Rattle.mc_c_syntax.specs.Ast.Views.{expression_of}
use Rattle.mc_c_types.specs.Faults.{comparison_faults, expression_faults}
use Rattle.mc_c_types.specs.Held.{tables_held, variables_held}
use Rattle.mc_c_types.proofs.Orders.{told_three}
use Rattle.mc_c_types.proofs.expressions.VisibleNames.check_compared.Goals as goal

pub returns : goal.returns
returns c =
    rw c.check_comparison.ensures
    (rw c.in_ok-check_expression-2.ensures
    (rw c.in_ok-check_expression.ensures
    (told_three c.args.told.now.fault (expression_faults (tables_held c.args.self.now.tables.now) (variables_held c.args.self.now.scope.now) (expression_of c.args.left.now)) (expression_faults (tables_held c.args.self.now.tables.now) (variables_held c.args.self.now.scope.now) (expression_of c.args.right.now)) (comparison_faults (tables_held c.args.self.now.tables.now) (variables_held c.args.self.now.scope.now) c.args.comparison (expression_of c.args.left.now) (expression_of c.args.right.now)))))
