use Rattle.mc_lower.specs.Knowns.{known}
use Rattle.mc_lower.proofs.Readying.{not_received}
use Rattle.std.proofs.Common.{add-one, length}
use Rattle.mc_lower.proofs.Agreeing.{one_more}
use Rattle.mc_lower.proofs.Having.{received_same, with_none}
use Rattle.std.proofs.Common.{◌≡◌, ◌+◌, ◌-◌, ◌++◌, suc, [], ◌∷◌, refl, sym, ap, subst, ◌∙◌, arith}
use Rattle.std.proofs.lemmas.List.{append-nil, append_assoc}
use Rattle.mc_semantics.specs.Resolved.Views.{function_of}
use Rattle.mc_lower_spec.specs.Lowering.{Receives, receives_none}
use Rattle.mc_lower.specs.Worlds.{stage_of}
use Rattle.mc_lower.proofs.Calling.{received_on}
use Rattle.mc_lower.proofs.builder.Builder.receive.Goals as goal

pub loop-number-init : goal.loop-number-init
loop-number-init c =
    record {
      leads =
          λ w vs u agrees rest.
          let f = function_of c.args.function.now in
          let count = c.args.function.now.parameters in
          let s = stage_of w c.args.self.now in
          let same : count - 0 ≡ count = omega arith in (
            agrees,
            subst (λ l. Receives w.graph f (w.out c.args.occurrence) 0 count s (l ++ vs) u) (sym c.new-parameters.ensures.items)
                (subst (λ k. Receives w.graph f (w.out c.args.occurrence) 0 k s vs u) same rest),
          );
      same = with_none c.args.self.now;
      count = ap (λ l. length l) c.new-parameters.ensures.items;
    }

pub loop-number-preserved : goal.loop-number-preserved
loop-number-preserved c =
    record {
      leads =
          λ w vs u agrees rest.
          let f = function_of c.args.function.now in
          let count = c.args.function.now.parameters in
          let n = c.loop-number.number in
          let v = c.in_ok-variable.variable in
          let bound = c.loop-number-test.true in
          let gap : count - n ≡ suc (count - (n + 1)) = omega arith in
          let created = c.in_ok-variable.ensures.leads w agrees in
          let e = c.loop-number.invariant.leads w (v ∷ vs) u created.0
          (received_on w.graph f (w.out c.args.occurrence) n (n + 1) (count - n) (count - (n + 1)) v vs _ _ u refl gap created.1 rest) in (
            e.0,
            subst (λ l. Receives w.graph f (w.out c.args.occurrence) 0 count (stage_of w c.args.self.now) l u)
                (sym (ap (λ l. l ++ vs) c.in_ok-push.ensures.items ∙ append_assoc c.loop-number.parameters.items (v ∷ []) vs)) e.1,
          );
      same = received_same _ _ _ _ _ c.in_ok-variable.ensures.same c.loop-number.invariant.same;
      count = one_more _ _ _ c.in_ok-push.ensures.items ∙ ap suc c.loop-number.invariant.count ∙ sym (add-one c.loop-number.number);
    }

pub returns-clause-leads : goal.returns-clause-leads
returns-clause-leads c = λ w agrees.
    let f = function_of c.args.function.now in
    let count = c.args.function.now.parameters in
    let n = c.loop-number.number in
    let s = stage_of w c.loop-number.self in
    let above = c.loop-number-test.false in
    let zero : count - n ≡ 0 = omega arith in
    let e = c.loop-number.invariant.leads w [] s agrees (subst (λ k. Receives w.graph f (w.out c.args.occurrence) n k s [] s) (sym zero) receives_none) in
    (e.0, subst (λ l. Receives w.graph f (w.out c.args.occurrence) 0 count (stage_of w c.args.self.now) l s) (append-nil c.loop-number.parameters.items) e.1)

pub create_local-requires-clause-new : goal.create_local-requires-clause-new
create_local-requires-clause-new c = not_received (known c.args.self.now) (known c.loop-number.self) c.args.occurrence c.loop-number.number c.requires.new c.loop-number.invariant.same
