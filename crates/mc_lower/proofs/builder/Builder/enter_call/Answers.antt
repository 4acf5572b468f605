use Rattle.mc_lower.proofs.Readying.{none_there, not_answered, received_still}
use Rattle.mc_lower.proofs.Readying.{begun_there, call_counts}
use Rattle.mc_lower.specs.Knowns.{known}
use Rattle.std.proofs.Common.{ap, refl, length, ◌∙◌, arith}
use Rattle.std.proofs.lemmas.List.{length-map}
use Rattle.std.proofs.lemmas.Option.{slice_get_within}
use Rattle.mc_semantics.specs.Resolved.Views.{local_of}
use Rattle.mc_lower.specs.Knowns.{with_owners}
use Rattle.mc_lower.specs.Ready.{AreReady, functions_in, locals_to}
use Rattle.mc_lower.proofs.Having.{all_still_ready}
use Rattle.std.proofs.Common.{map, subst, sym}
use Rattle.mc_semantics.specs.Resolved.Views.{call_of, expression_of, function_of}
use Rattle.mc_lower_spec.specs.Lowering.{Receives}
use Rattle.mc_lower.specs.Left.{PassesAll}
use Rattle.mc_lower.specs.Worlds.{stage_of}
use Rattle.mc_lower.proofs.Calling.{called}
use Rattle.mc_lower.proofs.builder.Builder.enter_call.Goals as goal

pub returns-clause-leads : goal.returns-clause-leads
returns-clause-leads c = λ w agrees.
    let awaited = c.in_ok-answer.ensures.leads w agrees in
    let given = c.in_ok-give.ensures.leads w awaited.0 in
    let received = c.in_ok-parameters.ensures.leads w given.0 in
    let occurred = c.in_ok-occurrence.ensures.leads w received.0 in
    let there = c.function-function.ensures.seen w occurred.0 in
    let f = c.function-function.result.now in
    let vs = c.in_ok-parameters.parameters.items in
    let out = w.out c.args.context.occurrence in
    let inner = w.out c.in_ok-occurrence.occurrence in
    let m = stage_of w c.receive.new.self in
    let from = subst (λ s. Receives w.graph (function_of f) inner 0 f.parameters s vs m) (sym occurred.1) received.1 in
    let passed = subst (λ l. PassesAll w.graph out c.args.place (map expression_of c.args.call.now.arguments.items) l m (stage_of w c.give.new.self)) c.as_slice.ensures.value given.1 in
    (occurred.0, λ n u body ends. called w.graph out inner c.args.place (call_of c.args.call.now) (function_of f) vs c.in_ok-answer.answer _ m _ _ n u there from passed awaited.1 body ends)

pub function-function-requires : goal.function-function-requires
function-function-requires c =
    let r = c.requires.1 in slice_get_within (functions_in (known c.args.self.now).source) c.args.call.now.function r.callee r.there

pub receive-requires-clause-low : goal.receive-requires-clause-low
receive-requires-clause-low c =
    let counts = call_counts (known c.args.self.now) c.args.context.occurrence c.requires.0 (call_of c.args.call.now) _ c.requires.1 c.function-function.ensures.there in
    let same = length-map c.function-function.result.now.locals.items local_of in
    let low = counts.1 in omega arith

pub give-requires-clause-many : goal.give-requires-clause-many
give-requires-clause-many c =
    let counts = call_counts (known c.args.self.now) c.args.context.occurrence c.requires.0 (call_of c.args.call.now) _ c.requires.1 c.function-function.ensures.there in
    sym (length-map c.args.call.now.arguments.items expression_of) ∙ counts.0 ∙ sym c.in_ok-parameters.ensures.count ∙ ap (λ l. length l) (sym c.as_slice.ensures.value)

pub receive-requires-clause-new : goal.receive-requires-clause-new
receive-requires-clause-new c = λ x. none_there (known c.args.self.now) (known c.occur.new.self) c.in_ok-occurrence.occurrence x c.requires.1.bounded c.in_ok-occurrence.ensures.last c.in_ok-occurrence.ensures.same

pub give-requires-clause-ready : goal.give-requires-clause-ready
give-requires-clause-ready c =
    let r = c.requires.1 in
    let i = c.in_ok-occurrence.occurrence in
    let p = c.function-function.result.now.parameters in
    subst (λ k. AreReady k c.args.context.occurrence (map expression_of c.args.call.now.arguments.items)) (sym (c.in_ok-parameters.ensures.same ∙ ap (λ k. with_owners (locals_to i p) k) c.in_ok-occurrence.ensures.same))
    (all_still_ready (known c.args.self.now) _ c.args.context.occurrence (map expression_of c.args.call.now.arguments.items) (received_still (known c.args.self.now) i p c.in_ok-occurrence.ensures.last) r.arguments)

pub await_result-requires : goal.await_result-requires
await_result-requires c =
    not_answered (known c.args.self.now) (known c.give.new.self) c.in_ok-occurrence.occurrence c.function-function.result.now.parameters c.requires.1.bounded c.in_ok-occurrence.ensures.last
    (c.in_ok-give.ensures.same ∙ c.in_ok-parameters.ensures.same ∙ ap (λ k. with_owners (locals_to c.in_ok-occurrence.occurrence c.function-function.result.now.parameters) k) c.in_ok-occurrence.ensures.same)

pub returns-clause-begun : goal.returns-clause-begun
returns-clause-begun c =
    begun_there (known c.args.self.now) _ _ _ (call_of c.args.call.now) _ c.in_ok-occurrence.occurrence c.requires.1.bounded c.in_ok-occurrence.ensures.same c.in_ok-occurrence.ensures.last refl
    (c.in_ok-give.ensures.same ∙ c.in_ok-parameters.ensures.same) c.in_ok-answer.ensures.same c.function-function.ensures.there refl refl c.in_ok-answer.ensures.answered
