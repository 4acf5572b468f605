use Rattle.std.proofs.Common.{◌∙◌}
use Rattle.mc_c_types.proofs.Visits.{next_expression}
use Rattle.mc_c_types.specs.Held.{tables_held, variables_held}
use Rattle.mc_c_types.proofs.expressions.VisibleNames.check_expressions.Goals as goal

pub loop-expression-preserved : goal.loop-expression-preserved
loop-expression-preserved c =
    rw c.in_ok-check_expression.ensures
    (next_expression (tables_held c.args.self.now.tables.now) (variables_held c.args.self.now.scope.now) c.loop-expression.told.fault c.args.expressions.now c.loop-expression.expression-index c.expression-item.result c.loop-expression-test.true c.expression-item.is ∙ c.loop-expression.invariant)
