use Rattle.mc_c_syntax.specs.Ast.Trees.{compare}
use Rattle.mc_c_syntax.specs.Ast.Views.{expression_of}
use Rattle.mc_c_types.specs.Faults.{condition_faults, expression_faults}
use Rattle.mc_c_types.specs.Held.{tables_held, variables_held, conditions_faults}
use Rattle.mc_c_types.proofs.Orders.{told_then}
use Rattle.mc_c_types.proofs.Seen.{plain_seen, compare_seen, both_seen, either_seen}
use Rattle.mc_c_types.proofs.Visits.{kept_told}
use Rattle.mc_c_types.proofs.expressions.VisibleNames.visit_condition.Goals as goal

pub returns-in_ok-check_expression-in-Plain-clause-told : goal.returns-in_ok-check_expression-in-Plain-clause-told
returns-in_ok-check_expression-in-Plain-clause-told c =
    rw c.in-Plain.is
    (rw (plain_seen c.in-Plain.expression)
    (rw c.in_ok-check_expression-in-Plain.ensures
    (told_then c.args.told.now.fault (expression_faults (tables_held c.args.self.now.tables.now) (variables_held c.args.self.now.scope.now) (expression_of c.in-Plain.expression)) (conditions_faults (tables_held c.args.self.now.tables.now) (variables_held c.args.self.now.scope.now) c.args.stack.now))))

pub returns-in_ok-check_compared-in-Compare-clause-told : goal.returns-in_ok-check_compared-in-Compare-clause-told
returns-in_ok-check_compared-in-Compare-clause-told c =
    rw c.in-Compare.is
    (rw (compare_seen c.in-Compare.comparison c.in-Compare.left c.in-Compare.right)
    (rw (rw (c.deref.ensures, c.deref-in-Compare.ensures) at c.in_ok-check_compared-in-Compare.ensures)
    (told_then c.args.told.now.fault (condition_faults (tables_held c.args.self.now.tables.now) (variables_held c.args.self.now.scope.now) (compare c.in-Compare.comparison (expression_of c.in-Compare.left.value) (expression_of c.in-Compare.right.value))) (conditions_faults (tables_held c.args.self.now.tables.now) (variables_held c.args.self.now.scope.now) c.args.stack.now))))

pub returns-in_ok-keep_both-in-Both-clause-told : goal.returns-in_ok-keep_both-in-Both-clause-told
returns-in_ok-keep_both-in-Both-clause-told c =
    rw c.in-Both.is
    (rw (both_seen c.in-Both.left c.in-Both.right)
    (kept_told (tables_held c.args.self.now.tables.now) (variables_held c.args.self.now.scope.now) c.args.told.now.fault c.args.stack.now c.keep_both.new.stack c.deref-in-Both.result c.deref-in-Both-2.result c.in-Both.left.value c.in-Both.right.value c.deref-in-Both.ensures c.deref-in-Both-2.ensures c.in_ok-keep_both-in-Both.ensures))

pub returns-in_ok-keep_both-in-Either-clause-told : goal.returns-in_ok-keep_both-in-Either-clause-told
returns-in_ok-keep_both-in-Either-clause-told c =
    rw c.in-Either.is
    (rw (either_seen c.in-Either.left c.in-Either.right)
    (kept_told (tables_held c.args.self.now.tables.now) (variables_held c.args.self.now.scope.now) c.args.told.now.fault c.args.stack.now c.keep_both-in-Either.new.stack c.deref-in-Either.result c.deref-in-Either-2.result c.in-Either.left.value c.in-Either.right.value c.deref-in-Either.ensures c.deref-in-Either-2.ensures c.in_ok-keep_both-in-Either.ensures))
