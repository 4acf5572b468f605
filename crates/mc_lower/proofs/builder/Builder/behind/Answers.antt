use Rattle.mc_lower.proofs.Readying.{nothing_made}
use Rattle.mc_lower.specs.Knowns.{Known, known, with_all}
use Rattle.mc_lower.specs.Ready.{Needs, takes}
use Rattle.std.proofs.Common.{◌≡◌, sym, subst}
use Rattle.mc_lower.specs.Left.{Met}
use Rattle.mc_lower.specs.Worlds.{stage_of}
use Rattle.mc_lower.proofs.builder.Builder.behind.Goals as goal

pub returns-in_ok-leave-in-EndBlock-clause-leads : goal.returns-in_ok-leave-in-EndBlock-clause-leads
returns-in_ok-leave-in-EndBlock-clause-leads c = λ w agrees.
    let e = c.in_ok-leave-in-EndBlock.ensures.leads w agrees in
    (e.0, subst (λ t. Met w t (stage_of w c.args.self.now) (stage_of w c.leave.new.self)) (sym c.in-EndBlock.is) e.1)

pub returns-in_ok-otherwise-in-Otherwise-clause-leads : goal.returns-in_ok-otherwise-in-Otherwise-clause-leads
returns-in_ok-otherwise-in-Otherwise-clause-leads c = λ w agrees.
    let e = c.in_ok-otherwise-in-Otherwise.ensures.leads w agrees in
    (e.0, subst (λ t. Met w t (stage_of w c.args.self.now) (stage_of w c.otherwise.new.self)) (sym c.in-Otherwise.is) e.1)

pub returns-in_ok-merge-in-Merge-clause-leads : goal.returns-in_ok-merge-in-Merge-clause-leads
returns-in_ok-merge-in-Merge-clause-leads c = λ w agrees.
    let e = c.in_ok-merge-in-Merge.ensures.leads w agrees in
    (e.0, subst (λ t. Met w t (stage_of w c.args.self.now) (stage_of w c.merge.new.self)) (sym c.in-Merge.is) e.1)

pub returns-in_ok-end_while-in-EndWhile-clause-leads : goal.returns-in_ok-end_while-in-EndWhile-clause-leads
returns-in_ok-end_while-in-EndWhile-clause-leads c = λ w agrees.
    let e = c.in_ok-end_while-in-EndWhile.ensures.leads w agrees in
    (e.0, subst (λ t. Met w t (stage_of w c.args.self.now) (stage_of w c.end_while.new.self)) (sym c.in-EndWhile.is) e.1)

pub returns-in_ok-end_do-in-EndDo-clause-leads : goal.returns-in_ok-end_do-in-EndDo-clause-leads
returns-in_ok-end_do-in-EndDo-clause-leads c = λ w agrees.
    let e = c.in_ok-end_do-in-EndDo.ensures.leads w agrees in
    (e.0, subst (λ t. Met w t (stage_of w c.args.self.now) (stage_of w c.end_do.new.self)) (sym c.in-EndDo.is) e.1)

pub returns-in_ok-end_for-in-EndFor-clause-leads : goal.returns-in_ok-end_for-in-EndFor-clause-leads
returns-in_ok-end_for-in-EndFor-clause-leads c = λ w agrees.
    let e = c.in_ok-end_for-in-EndFor.ensures.leads w agrees in
    (e.0, subst (λ t. Met w t (stage_of w c.args.self.now) (stage_of w c.end_for.new.self)) (sym c.in-EndFor.is) e.1)

pub returns-in_ok-end_call-in-EndCall-clause-leads : goal.returns-in_ok-end_call-in-EndCall-clause-leads
returns-in_ok-end_call-in-EndCall-clause-leads c = λ w agrees.
    let e = c.in_ok-end_call-in-EndCall.ensures.leads w agrees in
    (e.0, subst (λ t. Met w t (stage_of w c.args.self.now) (stage_of w c.end_call.new.self)) (sym c.in-EndCall.is) e.1)

pub returns-in_ok-take_result-in-Take-clause-leads : goal.returns-in_ok-take_result-in-Take-clause-leads
returns-in_ok-take_result-in-Take-clause-leads c = λ w agrees.
    let e = c.in_ok-take_result-in-Take.ensures.leads w agrees in
    (e.0, subst (λ t. Met w t (stage_of w c.args.self.now) (stage_of w c.take_result.new.self)) (sym c.in-Take.is) e.1)

pub returns-in_ok-answer_result-in-Answer-clause-leads : goal.returns-in_ok-answer_result-in-Answer-clause-leads
returns-in_ok-answer_result-in-Answer-clause-leads c = λ w agrees.
    let e = c.in_ok-answer_result-in-Answer.ensures.leads w agrees in
    (e.0, subst (λ t. Met w t (stage_of w c.args.self.now) (stage_of w c.answer_result.new.self)) (sym c.in-Answer.is) e.1)

pub returns-in_ok-leave-in-EndBlock-clause-none : goal.returns-in_ok-leave-in-EndBlock-clause-none
returns-in_ok-leave-in-EndBlock-clause-none c =
    nothing_made c.args.task c.requires.is_behind

pub returns-in_ok-otherwise-in-Otherwise-clause-none : goal.returns-in_ok-otherwise-in-Otherwise-clause-none
returns-in_ok-otherwise-in-Otherwise-clause-none c =
    nothing_made c.args.task c.requires.is_behind

pub returns-in_ok-merge-in-Merge-clause-none : goal.returns-in_ok-merge-in-Merge-clause-none
returns-in_ok-merge-in-Merge-clause-none c =
    nothing_made c.args.task c.requires.is_behind

pub returns-in_ok-end_while-in-EndWhile-clause-none : goal.returns-in_ok-end_while-in-EndWhile-clause-none
returns-in_ok-end_while-in-EndWhile-clause-none c =
    nothing_made c.args.task c.requires.is_behind

pub returns-in_ok-end_do-in-EndDo-clause-none : goal.returns-in_ok-end_do-in-EndDo-clause-none
returns-in_ok-end_do-in-EndDo-clause-none c =
    nothing_made c.args.task c.requires.is_behind

pub returns-in_ok-end_for-in-EndFor-clause-none : goal.returns-in_ok-end_for-in-EndFor-clause-none
returns-in_ok-end_for-in-EndFor-clause-none c =
    nothing_made c.args.task c.requires.is_behind

pub returns-in_ok-end_call-in-EndCall-clause-none : goal.returns-in_ok-end_call-in-EndCall-clause-none
returns-in_ok-end_call-in-EndCall-clause-none c =
    nothing_made c.args.task c.requires.is_behind

pub returns-in_ok-take_result-in-Take-clause-none : goal.returns-in_ok-take_result-in-Take-clause-none
returns-in_ok-take_result-in-Take-clause-none c =
    nothing_made c.args.task c.requires.is_behind

pub returns-in_ok-answer_result-in-Answer-clause-none : goal.returns-in_ok-answer_result-in-Answer-clause-none
returns-in_ok-answer_result-in-Answer-clause-none c =
    nothing_made c.args.task c.requires.is_behind

pub end_do-requires-clause-ready : goal.end_do-requires-clause-ready
end_do-requires-clause-ready c =
    subst (λ t. Needs (known c.args.self.now) t) c.in-EndDo.is c.requires.needs

pub end_call-requires-clause-occurs : goal.end_call-requires-clause-occurs
end_call-requires-clause-occurs c =
    subst (λ t. Needs (known c.args.self.now) t) c.in-EndCall.is c.requires.needs

pub take_result-requires-clause-named : goal.take_result-requires-clause-named
take_result-requires-clause-named c =
    let both = subst (λ t. Needs (known c.args.self.now) t) c.in-Take.is c.requires.needs in both.0

pub take_result-requires-clause-some : goal.take_result-requires-clause-some
take_result-requires-clause-some c =
    let both = subst (λ t. Needs (known c.args.self.now) t) c.in-Take.is c.requires.needs in both.1

pub answer_result-requires-clause-occurs : goal.answer_result-requires-clause-occurs
answer_result-requires-clause-occurs c =
    let both = subst (λ t. Needs (known c.args.self.now) t) c.in-Answer.is c.requires.needs in both.0

pub answer_result-requires-clause-some : goal.answer_result-requires-clause-some
answer_result-requires-clause-some c =
    let both = subst (λ t. Needs (known c.args.self.now) t) c.in-Answer.is c.requires.needs in both.1

pub returns-in_ok-leave-in-EndBlock-clause-rest : goal.returns-in_ok-leave-in-EndBlock-clause-rest
returns-in_ok-leave-in-EndBlock-clause-rest c =
    let old = c.args.self.now in
    subst (λ t. known old ≡ with_all (takes t) (known c.leave.new.self)) (sym c.in-EndBlock.is) (sym c.in_ok-leave-in-EndBlock.ensures.same)

pub returns-in_ok-otherwise-in-Otherwise-clause-rest : goal.returns-in_ok-otherwise-in-Otherwise-clause-rest
returns-in_ok-otherwise-in-Otherwise-clause-rest c =
    let old = c.args.self.now in
    subst (λ t. known old ≡ with_all (takes t) (known c.otherwise.new.self)) (sym c.in-Otherwise.is) c.in_ok-otherwise-in-Otherwise.ensures.rest

pub otherwise-requires : goal.otherwise-requires
otherwise-requires c =
    let old = c.args.self.now in
    subst (λ t. (k : Known) × (known old ≡ with_all (takes t) k)) c.in-Otherwise.is c.requires.waits

pub returns-in_ok-merge-in-Merge-clause-rest : goal.returns-in_ok-merge-in-Merge-clause-rest
returns-in_ok-merge-in-Merge-clause-rest c =
    let old = c.args.self.now in
    subst (λ t. known old ≡ with_all (takes t) (known c.merge.new.self)) (sym c.in-Merge.is) c.in_ok-merge-in-Merge.ensures.rest

pub merge-requires : goal.merge-requires
merge-requires c =
    let old = c.args.self.now in
    subst (λ t. (k : Known) × (known old ≡ with_all (takes t) k)) c.in-Merge.is c.requires.waits

pub returns-in_ok-end_while-in-EndWhile-clause-rest : goal.returns-in_ok-end_while-in-EndWhile-clause-rest
returns-in_ok-end_while-in-EndWhile-clause-rest c =
    let old = c.args.self.now in
    subst (λ t. known old ≡ with_all (takes t) (known c.end_while.new.self)) (sym c.in-EndWhile.is) c.in_ok-end_while-in-EndWhile.ensures.rest

pub end_while-requires : goal.end_while-requires
end_while-requires c =
    let old = c.args.self.now in
    subst (λ t. (k : Known) × (known old ≡ with_all (takes t) k)) c.in-EndWhile.is c.requires.waits

pub returns-in_ok-end_do-in-EndDo-clause-rest : goal.returns-in_ok-end_do-in-EndDo-clause-rest
returns-in_ok-end_do-in-EndDo-clause-rest c =
    let old = c.args.self.now in
    subst (λ t. known old ≡ with_all (takes t) (known c.end_do.new.self)) (sym c.in-EndDo.is) c.in_ok-end_do-in-EndDo.ensures.rest

pub end_do-requires-clause-waits : goal.end_do-requires-clause-waits
end_do-requires-clause-waits c =
    let old = c.args.self.now in
    subst (λ t. (k : Known) × (known old ≡ with_all (takes t) k)) c.in-EndDo.is c.requires.waits

pub returns-in_ok-end_for-in-EndFor-clause-rest : goal.returns-in_ok-end_for-in-EndFor-clause-rest
returns-in_ok-end_for-in-EndFor-clause-rest c =
    let old = c.args.self.now in
    subst (λ t. known old ≡ with_all (takes t) (known c.end_for.new.self)) (sym c.in-EndFor.is) c.in_ok-end_for-in-EndFor.ensures.rest

pub end_for-requires : goal.end_for-requires
end_for-requires c =
    let old = c.args.self.now in
    subst (λ t. (k : Known) × (known old ≡ with_all (takes t) k)) c.in-EndFor.is c.requires.waits

pub returns-in_ok-end_call-in-EndCall-clause-rest : goal.returns-in_ok-end_call-in-EndCall-clause-rest
returns-in_ok-end_call-in-EndCall-clause-rest c =
    let old = c.args.self.now in
    subst (λ t. known old ≡ with_all (takes t) (known c.end_call.new.self)) (sym c.in-EndCall.is) c.in_ok-end_call-in-EndCall.ensures.rest

pub end_call-requires-clause-waits : goal.end_call-requires-clause-waits
end_call-requires-clause-waits c =
    let old = c.args.self.now in
    subst (λ t. (k : Known) × (known old ≡ with_all (takes t) k)) c.in-EndCall.is c.requires.waits

pub returns-in_ok-take_result-in-Take-clause-rest : goal.returns-in_ok-take_result-in-Take-clause-rest
returns-in_ok-take_result-in-Take-clause-rest c =
    let old = c.args.self.now in
    subst (λ t. known old ≡ with_all (takes t) (known c.take_result.new.self)) (sym c.in-Take.is) (sym c.in_ok-take_result-in-Take.ensures.same)

pub returns-in_ok-answer_result-in-Answer-clause-rest : goal.returns-in_ok-answer_result-in-Answer-clause-rest
returns-in_ok-answer_result-in-Answer-clause-rest c =
    let old = c.args.self.now in
    subst (λ t. known old ≡ with_all (takes t) (known c.answer_result.new.self)) (sym c.in-Answer.is) (sym c.in_ok-answer_result-in-Answer.ensures.same)
