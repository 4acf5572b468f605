use Rattle.mc_lower.proofs.Readying.{ready_for_nothing, ready_for_declaring, ready_for_performing, ready_same, ready_two}
use Rattle.std.proofs.Common.{◌∷◌, ◌∙◌, ap, refl}
use Rattle.mc_semantics.specs.Resolved.Programs.{declares}
use Rattle.mc_lower.specs.declared.tasks.Task.{Task}
use Rattle.std.proofs.Common.{map, sym, subst}
use Rattle.mc_semantics.specs.Resolved.Views.{function_of, initial_of, start_of}
use Rattle.mc_lower_spec.specs.Lowering.{Declares, Starts, starts_nothing, starts_declaring, starts_performing}
use Rattle.mc_lower.specs.Worlds.{stage_of}
use Rattle.mc_lower.proofs.Resting.{pushed, pushed_two}
use Rattle.mc_lower.proofs.builder.Builder.for_loop.Goals as goal

pub returns-in-Nothing-clause-leads : goal.returns-in-Nothing-clause-leads
returns-in-Nothing-clause-leads c = λ w u agrees rest.
    let s = stage_of w c.args.self.now in
    let r = pushed w _ _ s u c.in_ok-push.ensures rest in
    (agrees, (r.0, r.1 s (subst (λ x. Starts w.graph (function_of c.args.context.function.now) (w.out c.args.context.occurrence) (start_of x) s s) (sym c.in-Nothing.is) starts_nothing), r.2))

pub returns-in_ok-push-in-Declaration-clause-leads : goal.returns-in_ok-push-in-Declaration-clause-leads
returns-in_ok-push-in-Declaration-clause-leads c = λ w u agrees rest.
    let s = stage_of w c.args.self.now in
    let f = function_of c.args.context.function.now in
    let out = w.out c.args.context.occurrence in
    let r = pushed_two w _ _ _ _ _ s u c.in_ok-push-in-Declaration.ensures c.in_ok-push.ensures rest in
    let declared = subst (λ l. Declares w.graph f out c.in-Declaration.place (map initial_of l) s r.0) c.as_slice.ensures.value r.1 in
    (agrees, (r.2.0, r.2.1 s (subst (λ x. Starts w.graph f out (start_of x) s r.0) (sym c.in-Declaration.is) (starts_declaring declared)), r.2.2))

pub returns-in_ok-push-in-Simple-clause-leads : goal.returns-in_ok-push-in-Simple-clause-leads
returns-in_ok-push-in-Simple-clause-leads c = λ w u agrees rest.
    let s = stage_of w c.args.self.now in
    let f = function_of c.args.context.function.now in
    let out = w.out c.args.context.occurrence in
    let r = pushed_two w _ _ _ _ _ s u c.in_ok-push-in-Simple.ensures c.in_ok-push.ensures rest in
    (agrees, (r.2.0, r.2.1 s (subst (λ x. Starts w.graph f out (start_of x) s r.0) (sym c.in-Simple.is) (starts_performing r.1)), r.2.2))

pub returns-in-Nothing-clause-ready : goal.returns-in-Nothing-clause-ready
returns-in-Nothing-clause-ready c = λ later.
    ready_same _ _ _ _ refl c.in_ok-push.ensures (ready_for_nothing _ _ _ c.args.context c.args.head c.args.body c.args.tasks.now (ap start_of c.in-Nothing.is) c.requires later)

pub returns-in_ok-push-in-Declaration-clause-ready : goal.returns-in_ok-push-in-Declaration-clause-ready
returns-in_ok-push-in-Declaration-clause-ready c = λ later.
    let first = Task.Declare c.in-Declaration.place c.as_slice.result c.args.context in
    ready_same _ _ _ _ refl (c.in_ok-push-in-Declaration.ensures ∙ ap (λ l. first ∷ l) c.in_ok-push.ensures)
    (ready_for_declaring _ _ _ c.args.context c.args.head c.args.body c.in-Declaration.place c.as_slice.result c.args.tasks.now
    (ap start_of c.in-Declaration.is ∙ ap (λ l. declares c.in-Declaration.place (map initial_of l)) (sym c.as_slice.ensures.value)) c.requires later)

pub returns-in_ok-push-in-Simple-clause-ready : goal.returns-in_ok-push-in-Simple-clause-ready
returns-in_ok-push-in-Simple-clause-ready c = λ later.
    ready_two _ _ _ _ _ _ _ refl c.in_ok-push-in-Simple.ensures c.in_ok-push.ensures
    (ready_for_performing _ _ _ c.args.context c.args.head c.args.body (record { ref_ptr = (0, 0); now = c.in-Simple.simple }) c.args.tasks.now (ap start_of c.in-Simple.is) c.requires later)
