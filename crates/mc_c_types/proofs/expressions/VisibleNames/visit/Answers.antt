use Rattle.mc_c_syntax.specs.Ast.Views.{left_of}
use Rattle.mc_c_types.specs.Faults.{left_faults}
use Rattle.mc_c_types.specs.Held.{tables_held, variables_held, expressions_faults}
use Rattle.mc_c_types.proofs.Orders.{told_then}
use Rattle.mc_c_types.proofs.Seen.{value_seen, minus_seen, parens_seen, times_seen, plus_seen, difference_seen}
use Rattle.mc_c_types.proofs.Visits.{operands_told, operands_less, inner_less}
use Rattle.mc_c_types.proofs.expressions.VisibleNames.visit.Goals as goal

pub returns-in-Value-clause-told : goal.returns-in-Value-clause-told
returns-in-Value-clause-told c = rw c.in-Value.is (rw (value_seen c.in-Value.left) (rw c.check_left.ensures (told_then c.args.told.now.fault (left_faults (tables_held c.args.self.now.tables.now) (variables_held c.args.self.now.scope.now) (left_of c.in-Value.left)) (expressions_faults (tables_held c.args.self.now.tables.now) (variables_held c.args.self.now.scope.now) c.args.stack.now))))

pub returns-in_ok-push-in-Minus-clause-less : goal.returns-in_ok-push-in-Minus-clause-less
returns-in_ok-push-in-Minus-clause-less c =
    rw c.in-Minus.is (rw (minus_seen c.in-Minus.field-0 c.in-Minus.inner) (inner_less c.args.stack.now c.push.new.self c.deref-in-Minus.result c.in-Minus.inner.value c.deref-in-Minus.ensures c.in_ok-push-in-Minus.ensures))

pub returns-in_ok-push-in-Parens-clause-less : goal.returns-in_ok-push-in-Parens-clause-less
returns-in_ok-push-in-Parens-clause-less c =
    rw c.in-Parens.is (rw (parens_seen c.in-Parens.field-0 c.in-Parens.inner) (inner_less c.args.stack.now c.push-in-Parens.new.self c.deref-in-Parens.result c.in-Parens.inner.value c.deref-in-Parens.ensures c.in_ok-push-in-Parens.ensures))

pub returns-in_ok-visit_operands-in-Times-clause-told : goal.returns-in_ok-visit_operands-in-Times-clause-told
returns-in_ok-visit_operands-in-Times-clause-told c =
    rw c.in-Times.is
    (rw (times_seen c.in-Times.left c.in-Times.right) (operands_told (tables_held c.args.self.now.tables.now) (variables_held c.args.self.now.scope.now) c.args.told.now.fault c.visit_operands.new.told.fault c.args.stack.now c.visit_operands.new.stack c.deref-in-Times.result c.deref-in-Times-2.result c.in-Times.left.value c.in-Times.right.value c.deref-in-Times.ensures c.deref-in-Times-2.ensures c.in_ok-visit_operands-in-Times.ensures.told c.in_ok-visit_operands-in-Times.ensures.kept))

pub returns-in_ok-visit_operands-in-Times-clause-less : goal.returns-in_ok-visit_operands-in-Times-clause-less
returns-in_ok-visit_operands-in-Times-clause-less c =
    rw c.in-Times.is (rw (times_seen c.in-Times.left c.in-Times.right) (operands_less c.args.stack.now c.visit_operands.new.stack c.deref-in-Times.result c.deref-in-Times-2.result c.in-Times.left.value c.in-Times.right.value c.deref-in-Times.ensures c.deref-in-Times-2.ensures c.in_ok-visit_operands-in-Times.ensures.kept))

pub returns-in_ok-visit_operands-in-Plus-clause-told : goal.returns-in_ok-visit_operands-in-Plus-clause-told
returns-in_ok-visit_operands-in-Plus-clause-told c =
    rw c.in-Plus.is
    (rw (plus_seen c.in-Plus.left c.in-Plus.right) (operands_told (tables_held c.args.self.now.tables.now) (variables_held c.args.self.now.scope.now) c.args.told.now.fault c.visit_operands-in-Plus.new.told.fault c.args.stack.now c.visit_operands-in-Plus.new.stack c.deref-in-Plus.result c.deref-in-Plus-2.result c.in-Plus.left.value c.in-Plus.right.value c.deref-in-Plus.ensures c.deref-in-Plus-2.ensures c.in_ok-visit_operands-in-Plus.ensures.told c.in_ok-visit_operands-in-Plus.ensures.kept))

pub returns-in_ok-visit_operands-in-Plus-clause-less : goal.returns-in_ok-visit_operands-in-Plus-clause-less
returns-in_ok-visit_operands-in-Plus-clause-less c =
    rw c.in-Plus.is (rw (plus_seen c.in-Plus.left c.in-Plus.right) (operands_less c.args.stack.now c.visit_operands-in-Plus.new.stack c.deref-in-Plus.result c.deref-in-Plus-2.result c.in-Plus.left.value c.in-Plus.right.value c.deref-in-Plus.ensures c.deref-in-Plus-2.ensures c.in_ok-visit_operands-in-Plus.ensures.kept))

pub returns-in_ok-visit_operands-in-Difference-clause-told : goal.returns-in_ok-visit_operands-in-Difference-clause-told
returns-in_ok-visit_operands-in-Difference-clause-told c =
    rw c.in-Difference.is
    (rw (difference_seen c.in-Difference.left c.in-Difference.right) (operands_told (tables_held c.args.self.now.tables.now) (variables_held c.args.self.now.scope.now) c.args.told.now.fault c.visit_operands-in-Difference.new.told.fault c.args.stack.now c.visit_operands-in-Difference.new.stack c.deref-in-Difference.result c.deref-in-Difference-2.result c.in-Difference.left.value c.in-Difference.right.value c.deref-in-Difference.ensures c.deref-in-Difference-2.ensures c.in_ok-visit_operands-in-Difference.ensures.told c.in_ok-visit_operands-in-Difference.ensures.kept))

pub returns-in_ok-visit_operands-in-Difference-clause-less : goal.returns-in_ok-visit_operands-in-Difference-clause-less
returns-in_ok-visit_operands-in-Difference-clause-less c =
    rw c.in-Difference.is (rw (difference_seen c.in-Difference.left c.in-Difference.right) (operands_less c.args.stack.now c.visit_operands-in-Difference.new.stack c.deref-in-Difference.result c.deref-in-Difference-2.result c.in-Difference.left.value c.in-Difference.right.value c.deref-in-Difference.ensures c.deref-in-Difference-2.ensures c.in_ok-visit_operands-in-Difference.ensures.kept))
