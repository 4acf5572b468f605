use Rattle.mc_lower.proofs.Readying.{ready_body}
use Rattle.std.proofs.Common.{sym}
use Rattle.mc_lower.specs.Ready.{Ready}
use Rattle.std.proofs.Common.{◌∷◌, map, ap, subst, ◌∙◌}
use Rattle.mc_semantics.specs.Resolved.Views.{statement_of, stmts_of}
use Rattle.mc_lower_spec.specs.Lowering.{LowersAll}
use Rattle.mc_lower.specs.declared.tasks.Task.{Task}
use Rattle.mc_lower.specs.Left.{around_of}
use Rattle.mc_lower.proofs.Resting.{pushed}
use Rattle.mc_lower.proofs.calls.push_body.Goals as goal

pub returns-clause-leads : goal.returns-clause-leads
returns-clause-leads c = λ w s u rest.
    let body = Task.Statements c.as_slice.result c.args.callee in
    let r = pushed w _ (body ∷ Task.EndCall c.args.place c.args.callee ∷ c.args.tasks.now) s u (c.in_ok-push-2.ensures ∙ ap (λ l. body ∷ l) c.in_ok-push.ensures) rest in
    (r.0, subst (λ l. LowersAll w.graph (around_of w c.args.callee) (stmts_of (map statement_of l)) s r.0) c.as_slice.ensures.value r.1, r.2)

pub returns-clause-ready : goal.returns-clause-ready
returns-clause-ready c =
    let body = Task.Statements c.as_slice.result c.args.callee in
    λ k m waits fits occurs later. subst (λ l. Ready k l) (sym (c.in_ok-push-2.ensures ∙ ap (λ l. body ∷ l) c.in_ok-push.ensures))
    (ready_body k m c.args.callee c.as_slice.result c.args.place c.args.tasks.now waits c.as_slice.ensures.value fits occurs later)
