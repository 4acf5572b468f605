use Rattle.mc_c_syntax.specs.Ast.Views.{expression_of}
use Rattle.mc_c_types.specs.Faults.{expression_faults, no_fit}
use Rattle.mc_c_types.proofs.Orders.{told_then}
use Rattle.mc_c_types.specs.Held.{tables_held, variables_held}
use Rattle.mc_c_types.proofs.expressions.VisibleNames.check_value.Goals as goal

pub returns : goal.returns
returns c =
    rw c.want_type.ensures
    (rw c.in_ok-check_expression.ensures (told_then c.args.told.now.fault (expression_faults (tables_held c.args.self.now.tables.now) (variables_held c.args.self.now.scope.now) (expression_of c.args.expression.now)) (no_fit (tables_held c.args.self.now.tables.now) (variables_held c.args.self.now.scope.now) c.args.wanted (expression_of c.args.expression.now))))
