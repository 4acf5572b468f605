use Rattle.mc_lower.proofs.Readying.{for_condition, ready_enter_for, ready_same}
use Rattle.mc_lower.specs.Knowns.{known, with_label}
use Rattle.mc_lower.specs.Ready.{IsTestReadyPerhaps}
use Rattle.std.proofs.Common.{◌∷◌, ap, ◌∙◌, subst, sym}
use Rattle.std.specs.Prelude.{option_map}
use Rattle.mc_semantics.specs.Resolved.Views.{condition_of, head_of, statement_of}
use Rattle.mc_lower_spec.specs.Lowering.{Lowers}
use Rattle.mc_lower.specs.declared.tasks.Task.{Task}
use Rattle.mc_lower.specs.Left.{around_of}
use Rattle.mc_lower.specs.Valued.{TestsPerhapsOn}
use Rattle.mc_lower.specs.Worlds.{stage_of}
use Rattle.mc_lower.proofs.Meeting.{for_met}
use Rattle.mc_lower.proofs.Resting.{copied_map, pushed_two}
use Rattle.mc_lower.proofs.Waiting.{both_wait}
use Rattle.mc_lower.proofs.builder.Builder.enter_for.Goals as goal

pub returns-clause-leads : goal.returns-clause-leads
returns-clause-leads c = λ w u agrees rest.
    let h = head_of c.args.head.now in
    let exit = c.in_ok-exit.exit in
    let m = stage_of w c.test_perhaps.new.self in
    let r = pushed_two w _ _ _ _ _ m u c.in_ok-push-2.ensures c.in_ok-push.ensures rest in
    let tested = c.in_ok-test_perhaps.ensures.leads w agrees in
    let last = c.in_ok-turn.ensures.kept w tested.0 in
    let first = c.in_ok-exit.ensures.kept w last.0 in
    let skipped = c.in_ok-skip.ensures.leads w first.0 in
    let condition = subst (λ o. TestsPerhapsOn w.graph (w.out c.args.context.occurrence) o (w.at exit.0) (stage_of w c.label-2.new.self) m)
    (sym (copied_map condition_of c.as_ref.result) ∙ ap (λ o. option_map condition_of o) c.as_ref.ensures.value) tested.1 in
    let tests = subst (λ s. TestsPerhapsOn w.graph (w.out c.args.context.occurrence) h.condition (w.at exit.0) s m) (sym (first.1 ∙ last.1)) condition in
    let inside = subst (λ x. Lowers w.graph (around_of w x) (statement_of c.args.body.now) m r.0) c.in_loop.ensures r.1 in
    (skipped.0, (r.2.0, (λ q starts. for_met w.graph (around_of w c.args.context) h (statement_of c.args.body.now) _ _ _ _ _ q _ _ _ _ starts skipped.1 tests inside r.2.1), r.2.2))

pub returns-clause-ready : goal.returns-clause-ready
returns-clause-ready c = λ later.
    let body = Task.Statement c.args.body c.in_loop.result in
    ready_same _ _ _ _ (c.in_ok-test_perhaps.ensures.same ∙ both_wait _ _ _ _ _ _ c.in_ok-turn.ensures.known c.in_ok-exit.ensures.known c.in_ok-skip.ensures.same) (c.in_ok-push-2.ensures ∙ ap (λ l. body ∷ l) c.in_ok-push.ensures)
    (ready_enter_for _ _ _ c.args.context c.in_loop.result c.args.head c.args.body c.args.self.now.lines.goal (record { exit = c.in_ok-exit.exit; turn = c.in_ok-turn.turn }) c.args.tasks.now c.in_loop.ensures c.requires later)

pub test_perhaps-requires : goal.test_perhaps-requires
test_perhaps-requires c =
    let here = for_condition _ _ (with_label c.in_ok-turn.turn (with_label c.in_ok-exit.exit (known c.args.self.now))).waiting _ c.args.context (head_of c.args.head.now) (statement_of c.args.body.now) c.requires in
    subst (λ k. IsTestReadyPerhaps k c.args.context.occurrence (option_map (λ x. condition_of x.now) c.as_ref.result)) (sym (both_wait _ _ _ _ _ _ c.in_ok-turn.ensures.known c.in_ok-exit.ensures.known c.in_ok-skip.ensures.same))
    (subst (λ o. IsTestReadyPerhaps (with_label c.in_ok-turn.turn (with_label c.in_ok-exit.exit (known c.args.self.now))) c.args.context.occurrence o) (sym (sym (copied_map condition_of c.as_ref.result) ∙ ap (λ o. option_map condition_of o) c.as_ref.ensures.value)) here)
