use Rattle.mc_lower.proofs.Readying.{ready_left, ready_same}
use Rattle.mc_lower.specs.Knowns.{known}
use Rattle.mc_lower.specs.Ready.{IsReturnReady}
use Rattle.std.proofs.Common.{[], refl}
use Rattle.std.proofs.Common.{sym, subst}
use Rattle.std.specs.Prelude.{option_map}
use Rattle.mc_semantics.specs.Resolved.Programs.{returns as returning}
use Rattle.mc_semantics.specs.Resolved.Views.{right_of}
use Rattle.mc_lower_spec.specs.Lowering.{Lowers}
use Rattle.mc_lower.specs.Left.{around_of}
use Rattle.mc_lower.specs.Worlds.{stage_of}
use Rattle.mc_lower.proofs.Meeting.{returned_nothing}
use Rattle.mc_lower.proofs.builder.Builder.returns.Goals as goal

pub returns-in_ok-go_out-in-None-clause-leads : goal.returns-in_ok-go_out-in-None-clause-leads
returns-in_ok-go_out-in-None-clause-leads c = λ w u agrees rest.
    let e = c.in_ok-go_out-in-None.ensures.leads w agrees in
    let s = stage_of w c.args.self.now in
    let m = stage_of w c.go_out.new.self in (
      e.0,
      (
        m,
        subst (λ o. Lowers w.graph (around_of w c.args.context) (returning c.args.place (option_map (λ r. right_of r.now) o)) s m) (sym c.in-None.is)
            (returned_nothing w.graph (around_of w c.args.context) c.args.place s m e.1),
        rest,
      ),
    )

pub returns-in_ok-return_right-in-Some-clause-leads : goal.returns-in_ok-return_right-in-Some-clause-leads
returns-in_ok-return_right-in-Some-clause-leads c = λ w u agrees rest.
    let e = c.in_ok-return_right-in-Some.ensures.leads w u agrees rest in
    (e.0, (e.1.0, subst (λ o. Lowers w.graph (around_of w c.args.context) (returning c.args.place (option_map (λ r. right_of r.now) o)) (stage_of w c.args.self.now) e.1.0) (sym c.in-Some.is) e.1.1, e.1.2))

pub returns-in_ok-go_out-in-None-clause-ready : goal.returns-in_ok-go_out-in-None-clause-ready
returns-in_ok-go_out-in-None-clause-ready c = λ later.
    ready_same _ _ _ _ c.in_ok-go_out-in-None.ensures.same refl (ready_left _ _ _ c.args.context.occurrence [] c.args.tasks.now refl later)

pub return_right-requires-clause-answered : goal.return_right-requires-clause-answered
return_right-requires-clause-answered c =
    let both = subst (λ o. IsReturnReady (known c.args.self.now) c.args.context.occurrence (option_map (λ r. right_of r.now) o)) c.in-Some.is c.requires.value in both.0

pub return_right-requires-clause-right : goal.return_right-requires-clause-right
return_right-requires-clause-right c =
    let both = subst (λ o. IsReturnReady (known c.args.self.now) c.args.context.occurrence (option_map (λ r. right_of r.now) o)) c.in-Some.is c.requires.value in both.1
