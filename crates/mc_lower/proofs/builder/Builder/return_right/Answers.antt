use Rattle.mc_lower.proofs.Readying.{ready_left, ready_same}
use Rattle.mc_lower.specs.Knowns.{known}
use Rattle.mc_lower.specs.Ready.{IsPlainReady, IsRightReady}
use Rattle.std.proofs.Common.{[], refl}
use Rattle.std.proofs.Common.{Some, sym, subst}
use Rattle.mc_semantics.specs.Resolved.Programs.{returns}
use Rattle.mc_semantics.specs.Resolved.Views.{right_of}
use Rattle.mc_lower_spec.specs.Lowering.{Lowers}
use Rattle.mc_lower.specs.Left.{around_of}
use Rattle.mc_lower.specs.Worlds.{stage_of}
use Rattle.mc_lower.proofs.builder.Builder.return_right.Goals as goal

pub returns-in_ok-call_and_return-in-Call-clause-leads : goal.returns-in_ok-call_and_return-in-Call-clause-leads
returns-in_ok-call_and_return-in-Call-clause-leads c = λ w u agrees rest.
    let e = c.in_ok-call_and_return-in-Call.ensures.leads w u agrees rest in
    (e.0, (e.1.0, subst (λ r. Lowers w.graph (around_of w c.args.context) (returns c.args.place (Some (right_of r))) (stage_of w c.args.self.now) e.1.0) (sym c.in-Call.is) e.1.1, e.1.2))

pub returns-in_ok-return_value-in-Expression-clause-leads : goal.returns-in_ok-return_value-in-Expression-clause-leads
returns-in_ok-return_value-in-Expression-clause-leads c = λ w u agrees rest.
    let e = c.in_ok-return_value-in-Expression.ensures.leads w agrees in
    (e.0, (stage_of w c.return_value.new.self, e.1, rest))

pub returns-in_ok-return_value-in-Malloc-clause-leads : goal.returns-in_ok-return_value-in-Malloc-clause-leads
returns-in_ok-return_value-in-Malloc-clause-leads c = λ w u agrees rest.
    let e = c.in_ok-return_value-in-Malloc.ensures.leads w agrees in
    (e.0, (stage_of w c.return_value-in-Malloc.new.self, e.1, rest))

pub call_and_return-requires-clause-call : goal.call_and_return-requires-clause-call
call_and_return-requires-clause-call c =
    subst (λ r. IsRightReady (known c.args.self.now) c.args.context.occurrence (right_of r)) c.in-Call.is c.requires.right

pub return_value-requires-clause-right : goal.return_value-requires-clause-right
return_value-requires-clause-right c =
    subst (λ r. IsPlainReady (known c.args.self.now) c.args.context.occurrence (right_of r)) (sym c.in-Expression.is) (subst (λ r. IsRightReady (known c.args.self.now) c.args.context.occurrence (right_of r)) c.in-Expression.is c.requires.right)

pub returns-in_ok-return_value-in-Expression-clause-ready : goal.returns-in_ok-return_value-in-Expression-clause-ready
returns-in_ok-return_value-in-Expression-clause-ready c = λ later.
    ready_same _ _ _ _ c.in_ok-return_value-in-Expression.ensures.same refl (ready_left _ _ _ c.args.context.occurrence [] c.args.tasks.now refl later)

pub return_value-requires-in-Malloc-clause-right : goal.return_value-requires-in-Malloc-clause-right
return_value-requires-in-Malloc-clause-right c =
    subst (λ r. IsPlainReady (known c.args.self.now) c.args.context.occurrence (right_of r)) (sym c.in-Malloc.is) (subst (λ r. IsRightReady (known c.args.self.now) c.args.context.occurrence (right_of r)) c.in-Malloc.is c.requires.right)

pub returns-in_ok-return_value-in-Malloc-clause-ready : goal.returns-in_ok-return_value-in-Malloc-clause-ready
returns-in_ok-return_value-in-Malloc-clause-ready c = λ later.
    ready_same _ _ _ _ c.in_ok-return_value-in-Malloc.ensures.same refl (ready_left _ _ _ c.args.context.occurrence [] c.args.tasks.now refl later)
