use Rattle.mc_lower.specs.Knowns.{known}
use Rattle.mc_lower.proofs.Having.{argument_at}
use Rattle.std.proofs.Common.{◌≡◌, ◌<◌, ◌+◌, ◌++◌, [], ◌∷◌, map, drop, refl, sym, ap, subst, ◌∙◌, length, arith}
use Rattle.std.proofs.lemmas.List.{append-nil, append_assoc, drop_all}
use Rattle.std.proofs.lemmas.Option.{slice_get-get_or}
use Rattle.mc_semantics.specs.Resolved.Views.{argument_of}
use Rattle.mc_lower_spec.specs.Lowering.{AreArguments, are_none}
use Rattle.mc_lower.specs.Worlds.{stage_of}
use Rattle.mc_lower.proofs.Valuing.{argument_on}
use Rattle.mc_lower.proofs.builder.Builder.arguments.Goals as goal

pub loop-at-preserved : goal.loop-at-preserved
loop-at-preserved c = λ w os agrees rest.
    let args = c.args.arguments.now in
    let at = c.loop-at.at in
    let o = c.argument-operand.result in
    let s = stage_of w c.args.self.now in
    let bound = c.loop-at-test.true in
    let inside : at < length args = omega arith in
    let e = c.loop-at.invariant w (o ∷ os) agrees
    (argument_on w.graph (w.out c.args.occurrence) s args at (at + 1) _ o os refl (slice_get-get_or args at _ inside) (c.argument-operand.ensures w agrees) rest) in
    subst (λ l. AreArguments w.graph (w.out c.args.occurrence) s (map argument_of args) l)
    (sym (ap (λ l. l ++ os) c.in_ok-push.ensures.items ∙ append_assoc c.loop-at.operands.items (o ∷ []) os)) e

pub returns : goal.returns
returns c = λ w agrees.
    let args = c.args.arguments.now in
    let above = c.loop-at-test.false in
    let end = c.loop-at.auto.at-end in
    let none_left : drop c.loop-at.at args ≡ [] = drop_all c.loop-at.at args (omega arith) in
    let s = stage_of w c.args.self.now in
    let e = c.loop-at.invariant w [] agrees
    (subst (λ l. AreArguments w.graph (w.out c.args.occurrence) s (map argument_of l) []) (sym none_left) are_none) in
    subst (λ l. AreArguments w.graph (w.out c.args.occurrence) s (map argument_of args) l) (sym (c.of.ensures ∙ sym (append-nil c.loop-at.operands.items))) e

pub argument-operand-requires : goal.argument-operand-requires
argument-operand-requires c =
    let args = c.args.arguments.now in
    let bound = c.loop-at-test.true in
    let inside : c.loop-at.at < length args = omega arith in
    argument_at (known c.args.self.now) c.args.occurrence args c.loop-at.at _ c.requires inside
