use Rattle.mc_lower.proofs.Readying.{ready_left, ready_same}
use Rattle.mc_lower.specs.Knowns.{known}
use Rattle.mc_lower.specs.Ready.{IsPlainReady, IsRightReady}
use Rattle.std.proofs.Common.{[], refl}
use Rattle.std.proofs.Common.{sym, subst}
use Rattle.mc_semantics.specs.Resolved.Programs.{assign}
use Rattle.mc_semantics.specs.Resolved.Views.{right_of}
use Rattle.mc_lower_spec.specs.Lowering.{Performs, performs_assign}
use Rattle.mc_lower.specs.Valued.{target_of}
use Rattle.mc_lower.specs.Worlds.{stage_of}
use Rattle.mc_lower.proofs.builder.Builder.assign_right.Goals as goal

pub returns-in_ok-call_into-in-Call-clause-leads : goal.returns-in_ok-call_into-in-Call-clause-leads
returns-in_ok-call_into-in-Call-clause-leads c = λ w u agrees rest.
    let e = c.in_ok-call_into-in-Call.ensures.leads w u agrees rest in
    (e.0, (e.1.0, subst (λ r. Performs w.graph (w.out c.args.context.occurrence) c.args.place (assign (target_of c.args.target) (right_of r)) (stage_of w c.args.self.now) e.1.0) (sym c.in-Call.is) e.1.1, e.1.2))

pub returns-in_ok-assign-in-Expression-clause-leads : goal.returns-in_ok-assign-in-Expression-clause-leads
returns-in_ok-assign-in-Expression-clause-leads c = λ w u agrees rest.
    let assigned = c.in_ok-assign-in-Expression.ensures.leads w agrees in
    (assigned.0, (stage_of w c.assign.new.self, performs_assign assigned.1, rest))

pub returns-in_ok-assign-in-Malloc-clause-leads : goal.returns-in_ok-assign-in-Malloc-clause-leads
returns-in_ok-assign-in-Malloc-clause-leads c = λ w u agrees rest.
    let assigned = c.in_ok-assign-in-Malloc.ensures.leads w agrees in
    (assigned.0, (stage_of w c.assign-in-Malloc.new.self, performs_assign assigned.1, rest))

pub call_into-requires-clause-call : goal.call_into-requires-clause-call
call_into-requires-clause-call c =
    subst (λ r. IsRightReady (known c.args.self.now) c.args.context.occurrence (right_of r)) c.in-Call.is c.requires.right

pub assign-requires-clause-right : goal.assign-requires-clause-right
assign-requires-clause-right c =
    subst (λ r. IsPlainReady (known c.args.self.now) c.args.context.occurrence (right_of r)) (sym c.in-Expression.is) (subst (λ r. IsRightReady (known c.args.self.now) c.args.context.occurrence (right_of r)) c.in-Expression.is c.requires.right)

pub returns-in_ok-assign-in-Expression-clause-ready : goal.returns-in_ok-assign-in-Expression-clause-ready
returns-in_ok-assign-in-Expression-clause-ready c = λ later.
    ready_same _ _ _ _ c.in_ok-assign-in-Expression.ensures.same refl (ready_left _ _ _ c.args.context.occurrence [] c.args.tasks.now refl later)

pub assign-requires-in-Malloc-clause-right : goal.assign-requires-in-Malloc-clause-right
assign-requires-in-Malloc-clause-right c =
    subst (λ r. IsPlainReady (known c.args.self.now) c.args.context.occurrence (right_of r)) (sym c.in-Malloc.is) (subst (λ r. IsRightReady (known c.args.self.now) c.args.context.occurrence (right_of r)) c.in-Malloc.is c.requires.right)

pub returns-in_ok-assign-in-Malloc-clause-ready : goal.returns-in_ok-assign-in-Malloc-clause-ready
returns-in_ok-assign-in-Malloc-clause-ready c = λ later.
    ready_same _ _ _ _ c.in_ok-assign-in-Malloc.ensures.same refl (ready_left _ _ _ c.args.context.occurrence [] c.args.tasks.now refl later)
