use Rattle.mc_lower.proofs.Readying.{needs_assert, needs_assert_shape, needs_assume, needs_assume_shape, needs_break, needs_continue, needs_free, nothing_declared}
use Rattle.mc_semantics.specs.Resolved.Views.{condition_of, expression_of, statement_of}
use Rattle.std.proofs.Common.{ap, ◌∙◌, sym, subst}
use Rattle.mc_semantics.specs.Resolved.Views.{condition_of, statement_of}
use Rattle.mc_lower_spec.specs.Lowering.{Lowers, frees, emptiness_asserted}
use Rattle.mc_lower.specs.Left.{around_of}
use Rattle.mc_lower.specs.Worlds.{stage_of}
use Rattle.mc_lower.proofs.Meeting.{checked_fail, checked_end}
use Rattle.mc_lower.proofs.builder.Builder.command.Goals as goal
use Rattle.mc_lower_spec.proofs.LengthLemmas.Seen.{assert_empty_statement_seen, assert_shape_statement_seen, assert_statement_seen, assume_shape_statement_seen, assume_statement_seen, break_statement_seen, continue_statement_seen, free_statement_seen}

pub returns-in_ok-free-in-Free-clause-leads : goal.returns-in_ok-free-in-Free-clause-leads
returns-in_ok-free-in-Free-clause-leads c = λ w agrees.
    let e = c.in_ok-free-in-Free.ensures.leads w agrees in
    let m = stage_of w c.free.new.self in
    (e.0, subst (λ x. Lowers w.graph (around_of w c.args.context) x (stage_of w c.args.self.now) (m)) (sym (ap statement_of c.in-Free.is ∙ free_statement_seen c.in-Free.place c.in-Free.pointer)) (frees e.1.evaluates e.1.appends e.1.undefines))

pub returns-in_ok-check-in-Assert-clause-leads : goal.returns-in_ok-check-in-Assert-clause-leads
returns-in_ok-check-in-Assert-clause-leads c = λ w agrees.
    let e = c.in_ok-check-in-Assert.ensures.leads w agrees in
    let m = stage_of w c.check.new.self in
    (e.0, subst (λ x. Lowers w.graph (around_of w c.args.context) x (stage_of w c.args.self.now) (m)) (sym (ap statement_of c.in-Assert.is ∙ assert_statement_seen c.in-Assert.place c.in-Assert.condition)) (checked_fail w.graph (around_of w c.args.context) c.in-Assert.place _ _ m e.1))

pub returns-in_ok-check-in-Assume-clause-leads : goal.returns-in_ok-check-in-Assume-clause-leads
returns-in_ok-check-in-Assume-clause-leads c = λ w agrees.
    let e = c.in_ok-check-in-Assume.ensures.leads w agrees in
    let m = stage_of w c.check-in-Assume.new.self in
    (e.0, subst (λ x. Lowers w.graph (around_of w c.args.context) x (stage_of w c.args.self.now) (m)) (sym (ap statement_of c.in-Assume.is ∙ assume_statement_seen c.in-Assume.place c.in-Assume.condition)) (checked_end w.graph (around_of w c.args.context) c.in-Assume.place _ _ m e.1))

pub returns-in_ok-assume_shape-in-AssumeShape-clause-leads : goal.returns-in_ok-assume_shape-in-AssumeShape-clause-leads
returns-in_ok-assume_shape-in-AssumeShape-clause-leads c = λ w agrees.
    let e = c.in_ok-assume_shape-in-AssumeShape.ensures.leads w agrees in
    let m = stage_of w c.assume_shape.new.self in
    (e.0, subst (λ x. Lowers w.graph (around_of w c.args.context) x (stage_of w c.args.self.now) (m)) (sym (ap statement_of c.in-AssumeShape.is ∙ assume_shape_statement_seen c.in-AssumeShape.shape)) (e.1))

pub returns-in_ok-assert_shape-in-AssertShape-clause-leads : goal.returns-in_ok-assert_shape-in-AssertShape-clause-leads
returns-in_ok-assert_shape-in-AssertShape-clause-leads c = λ w agrees.
    let e = c.in_ok-assert_shape-in-AssertShape.ensures.leads w agrees in
    let m = stage_of w c.assert_shape.new.self in
    (e.0, subst (λ x. Lowers w.graph (around_of w c.args.context) x (stage_of w c.args.self.now) (m)) (sym (ap statement_of c.in-AssertShape.is ∙ assert_shape_statement_seen c.in-AssertShape.shape)) (e.1))

pub returns-in_ok-assert_empty-in-AssertEmpty-clause-leads : goal.returns-in_ok-assert_empty-in-AssertEmpty-clause-leads
returns-in_ok-assert_empty-in-AssertEmpty-clause-leads c = λ w agrees.
    let e = c.in_ok-assert_empty-in-AssertEmpty.ensures.leads w agrees in
    let m = stage_of w c.assert_empty.new.self in
    (e.0, subst (λ x. Lowers w.graph (around_of w c.args.context) x (stage_of w c.args.self.now) (m)) (sym (ap statement_of c.in-AssertEmpty.is ∙ assert_empty_statement_seen c.in-AssertEmpty.place)) (emptiness_asserted e.1))

pub returns-in_ok-break_loop-in-Break-clause-leads : goal.returns-in_ok-break_loop-in-Break-clause-leads
returns-in_ok-break_loop-in-Break-clause-leads c = λ w agrees.
    let e = c.in_ok-break_loop-in-Break.ensures.leads w agrees in
    let m = stage_of w c.break_loop.new.self in
    (e.0, subst (λ x. Lowers w.graph (around_of w c.args.context) x (stage_of w c.args.self.now) (m)) (sym (ap statement_of c.in-Break.is ∙ break_statement_seen c.in-Break.place)) (e.1))

pub returns-in_ok-continue_loop-in-Continue-clause-leads : goal.returns-in_ok-continue_loop-in-Continue-clause-leads
returns-in_ok-continue_loop-in-Continue-clause-leads c = λ w agrees.
    let e = c.in_ok-continue_loop-in-Continue.ensures.leads w agrees in
    let m = stage_of w c.continue_loop.new.self in
    (e.0, subst (λ x. Lowers w.graph (around_of w c.args.context) x (stage_of w c.args.self.now) (m)) (sym (ap statement_of c.in-Continue.is ∙ continue_statement_seen c.in-Continue.place)) (e.1))

pub free-requires : goal.free-requires
free-requires c =
    needs_free _ _ _ c.args.context c.in-Free.place (expression_of c.in-Free.pointer) (statement_of c.args.statement.now) (ap statement_of c.in-Free.is ∙ free_statement_seen c.in-Free.place c.in-Free.pointer) c.requires.fits

pub check-requires : goal.check-requires
check-requires c =
    needs_assert _ _ _ c.args.context c.in-Assert.place (condition_of c.in-Assert.condition) (statement_of c.args.statement.now) (ap statement_of c.in-Assert.is ∙ assert_statement_seen c.in-Assert.place c.in-Assert.condition) c.requires.fits

pub check-requires-in-Assume : goal.check-requires-in-Assume
check-requires-in-Assume c =
    needs_assume _ _ _ c.args.context c.in-Assume.place (condition_of c.in-Assume.condition) (statement_of c.args.statement.now) (ap statement_of c.in-Assume.is ∙ assume_statement_seen c.in-Assume.place c.in-Assume.condition) c.requires.fits

pub assume_shape-requires-clause-there : goal.assume_shape-requires-clause-there
assume_shape-requires-clause-there c =
    let both = needs_assume_shape _ _ _ c.args.context _ _ _ _ (statement_of c.args.statement.now) (ap statement_of c.in-AssumeShape.is ∙ assume_shape_statement_seen c.in-AssumeShape.shape) c.requires.fits in both.0

pub assume_shape-requires-clause-arguments : goal.assume_shape-requires-clause-arguments
assume_shape-requires-clause-arguments c =
    let both = needs_assume_shape _ _ _ c.args.context _ _ _ _ (statement_of c.args.statement.now) (ap statement_of c.in-AssumeShape.is ∙ assume_shape_statement_seen c.in-AssumeShape.shape) c.requires.fits in both.1

pub assert_shape-requires-clause-start : goal.assert_shape-requires-clause-start
assert_shape-requires-clause-start c =
    let both = needs_assert_shape _ _ _ c.args.context _ _ _ _ (statement_of c.args.statement.now) (ap statement_of c.in-AssertShape.is ∙ assert_shape_statement_seen c.in-AssertShape.shape) c.requires.fits in both.0

pub assert_shape-requires-clause-arguments : goal.assert_shape-requires-clause-arguments
assert_shape-requires-clause-arguments c =
    let both = needs_assert_shape _ _ _ c.args.context _ _ _ _ (statement_of c.args.statement.now) (ap statement_of c.in-AssertShape.is ∙ assert_shape_statement_seen c.in-AssertShape.shape) c.requires.fits in both.1

pub break_loop-requires-clause-turns : goal.break_loop-requires-clause-turns
break_loop-requires-clause-turns c =
    needs_break _ _ _ c.args.context c.in-Break.place (statement_of c.args.statement.now) (ap statement_of c.in-Break.is ∙ break_statement_seen c.in-Break.place) c.requires.fits

pub break_loop-requires-clause-open : goal.break_loop-requires-clause-open
break_loop-requires-clause-open c =
    c.requires.fits.stands.block

pub continue_loop-requires-clause-turns : goal.continue_loop-requires-clause-turns
continue_loop-requires-clause-turns c =
    needs_continue _ _ _ c.args.context c.in-Continue.place (statement_of c.args.statement.now) (ap statement_of c.in-Continue.is ∙ continue_statement_seen c.in-Continue.place) c.requires.fits

pub continue_loop-requires-clause-open : goal.continue_loop-requires-clause-open
continue_loop-requires-clause-open c =
    c.requires.fits.stands.block

pub returns-in_ok-free-in-Free-clause-none : goal.returns-in_ok-free-in-Free-clause-none
returns-in_ok-free-in-Free-clause-none c =
    nothing_declared (statement_of c.args.statement.now) c.requires.is_command

pub returns-in_ok-check-in-Assert-clause-none : goal.returns-in_ok-check-in-Assert-clause-none
returns-in_ok-check-in-Assert-clause-none c =
    nothing_declared (statement_of c.args.statement.now) c.requires.is_command

pub returns-in_ok-check-in-Assume-clause-none : goal.returns-in_ok-check-in-Assume-clause-none
returns-in_ok-check-in-Assume-clause-none c =
    nothing_declared (statement_of c.args.statement.now) c.requires.is_command

pub returns-in_ok-assume_shape-in-AssumeShape-clause-none : goal.returns-in_ok-assume_shape-in-AssumeShape-clause-none
returns-in_ok-assume_shape-in-AssumeShape-clause-none c =
    nothing_declared (statement_of c.args.statement.now) c.requires.is_command

pub returns-in_ok-assert_shape-in-AssertShape-clause-none : goal.returns-in_ok-assert_shape-in-AssertShape-clause-none
returns-in_ok-assert_shape-in-AssertShape-clause-none c =
    nothing_declared (statement_of c.args.statement.now) c.requires.is_command

pub returns-in_ok-assert_empty-in-AssertEmpty-clause-none : goal.returns-in_ok-assert_empty-in-AssertEmpty-clause-none
returns-in_ok-assert_empty-in-AssertEmpty-clause-none c =
    nothing_declared (statement_of c.args.statement.now) c.requires.is_command

pub returns-in_ok-break_loop-in-Break-clause-none : goal.returns-in_ok-break_loop-in-Break-clause-none
returns-in_ok-break_loop-in-Break-clause-none c =
    nothing_declared (statement_of c.args.statement.now) c.requires.is_command

pub returns-in_ok-continue_loop-in-Continue-clause-none : goal.returns-in_ok-continue_loop-in-Continue-clause-none
returns-in_ok-continue_loop-in-Continue-clause-none c =
    nothing_declared (statement_of c.args.statement.now) c.requires.is_command
