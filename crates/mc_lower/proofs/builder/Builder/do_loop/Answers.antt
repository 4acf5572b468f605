use Rattle.mc_lower.proofs.Readying.{ready_do, ready_same}
use Rattle.std.proofs.Common.{◌∷◌, ap, ◌∙◌, subst, sym}
use Rattle.mc_semantics.specs.Resolved.Views.{condition_of, statement_of}
use Rattle.mc_lower_spec.specs.Lowering.{Lowers}
use Rattle.mc_lower.specs.declared.tasks.Task.{Task}
use Rattle.mc_lower.specs.Left.{around_of}
use Rattle.mc_lower.specs.Worlds.{stage_of}
use Rattle.mc_lower.proofs.Meeting.{do_met}
use Rattle.mc_lower.proofs.Resting.{pushed}
use Rattle.mc_lower.proofs.Waiting.{both_wait}
use Rattle.mc_lower.proofs.builder.Builder.do_loop.Goals as goal

pub returns-clause-leads : goal.returns-clause-leads
returns-clause-leads c = λ w u agrees rest.
    let turn = c.in_ok-turn.turn in
    let exit = c.in_ok-exit.exit in
    let body = Task.Statement c.args.body c.in_loop.result in
    let last = Task.EndDo c.args.place c.args.condition c.args.self.now.lines.goal (record { exit = exit; turn = turn }) c.args.context.occurrence in
    let r = pushed w _ (body ∷ last ∷ c.args.tasks.now) _ u (c.in_ok-push-2.ensures ∙ ap (λ l. body ∷ l) c.in_ok-push.ensures) rest in
    let turning = c.in_ok-turn.ensures.kept w agrees in
    let exiting = c.in_ok-exit.ensures.kept w turning.0 in
    let skipped = c.in_ok-skip.ensures.leads w exiting.0 in
    let inside = subst (λ x. Lowers w.graph (around_of w x) (statement_of c.args.body.now) (stage_of w c.skip.new.self) r.0) c.in_loop.ensures
    (subst (λ s. Lowers w.graph (around_of w c.in_loop.result) (statement_of c.args.body.now) s r.0) (sym (exiting.1 ∙ turning.1)) r.1) in
    (skipped.0, (r.2.0, do_met w.graph (around_of w c.args.context) c.args.place (condition_of c.args.condition.now) (statement_of c.args.body.now) _ _ _ _ _ _ _ _ skipped.1 inside r.2.1, r.2.2))

pub returns-clause-ready : goal.returns-clause-ready
returns-clause-ready c = λ later.
    let body = Task.Statement c.args.body c.in_loop.result in
    ready_same _ _ _ _ (both_wait _ _ _ _ _ _ c.in_ok-turn.ensures.known c.in_ok-exit.ensures.known c.in_ok-skip.ensures.same) (c.in_ok-push-2.ensures ∙ ap (λ l. body ∷ l) c.in_ok-push.ensures)
    (ready_do _ _ _ c.args.context c.in_loop.result c.args.place c.args.condition c.args.body (record { exit = c.in_ok-exit.exit; turn = c.in_ok-turn.turn }) c.args.self.now.lines.goal c.args.tasks.now c.in_loop.ensures c.requires later)
