use Rattle.std.proofs.Common.{refl, sym, subst, ap, ◌∙◌, ◌∷◌, length}
use Rattle.mc_lower.specs.declared.conditions.Work.{Work}
use Rattle.mc_lower.specs.Knowns.{known, with_all}
use Rattle.mc_lower.specs.Ready.{AreTestsReady}
use Rattle.mc_lower.specs.Valued.{Testing, froms}
use Rattle.mc_lower.proofs.Testing.{tested}
use Rattle.mc_lower.proofs.Waiting.{next_there, next_waits}
use Rattle.mc_lower.proofs.builder.Builder.test.Goals as goal

pub parts-init : goal.parts-init
parts-init c =
    record {
      leads =
          λ w n k agrees f.
          let t : Work = record { from = c.args.self.now.lines.goal; condition = c.args.condition; ways = c.args.ways } in
          (agrees, tested w c.args.occurrence t _ _ _ n k (c.in_ok-push.ensures ∙ ap (λ l. t ∷ l) c.new-work.ensures) f);
      rest =
          let t : Work = record { from = c.args.self.now.lines.goal; condition = c.args.condition; ways = c.args.ways } in
          ap (λ l. with_all (froms l) (known c.args.self.now)) (c.in_ok-push.ensures ∙ ap (λ l. t ∷ l) c.new-work.ensures);
      ready = rw (c.in_ok-push.ensures, c.new-work.ensures) (c.requires.ready, tt);
    }

pub parts-preserved : goal.parts-preserved
parts-preserved c =
    record {
      leads =
          λ w n k agrees f.
          let e = c.in_ok-test_next-in-Some.ensures.leads w n k agrees f in
          let b = c.parts.self in
          c.parts.invariant.leads w n k e.0 (subst (λ l. Testing w c.args.occurrence l (length b.lines.points.items) (length b.variables.list.items) n k) (sym c.in-Some.ensures) e.1);
      rest =
          let is = next_there c.parts.work _ _ (known c.args.self.now) (known c.parts.self) _ c.in-Some.ensures c.parts.invariant.rest in
          c.in_ok-test_next-in-Some.ensures.rest (known c.args.self.now) is.1;
      ready = c.in_ok-test_next-in-Some.ensures.ready;
    }

pub returns-in-None-clause-leads : goal.returns-in-None-clause-leads
returns-in-None-clause-leads c = λ w agrees.
    let b = c.parts.self in
    let n = length b.lines.points.items in
    let k = length b.variables.list.items in
    c.parts.invariant.leads w n k agrees (subst (λ l. Testing w c.args.occurrence l n k n k) (sym c.in-None.ensures.0) (refl, refl))

pub returns-in-None-clause-rest : goal.returns-in-None-clause-rest
returns-in-None-clause-rest c =
    sym (ap (λ l. with_all (froms l) (known c.args.self.now)) c.in-None.ensures.0) ∙ c.parts.invariant.rest

pub test_next-requires-clause-from : goal.test_next-requires-clause-from
test_next-requires-clause-from c =
    let is = next_there c.parts.work _ _ (known c.args.self.now) (known c.parts.self) _ c.in-Some.ensures c.parts.invariant.rest in is.0

pub test_next-requires-clause-waits : goal.test_next-requires-clause-waits
test_next-requires-clause-waits c =
    next_waits c.parts.work _ _ (known c.args.self.now) (known c.parts.self) _ c.in-Some.ensures c.parts.invariant.rest c.requires.waits

pub test_next-requires-clause-ready : goal.test_next-requires-clause-ready
test_next-requires-clause-ready c =
    let both = subst (λ l. AreTestsReady (known c.parts.self) c.args.occurrence l) c.in-Some.ensures c.parts.invariant.ready in both.0

pub test_next-requires-clause-others : goal.test_next-requires-clause-others
test_next-requires-clause-others c =
    let both = subst (λ l. AreTestsReady (known c.parts.self) c.args.occurrence l) c.in-Some.ensures c.parts.invariant.ready in both.1
