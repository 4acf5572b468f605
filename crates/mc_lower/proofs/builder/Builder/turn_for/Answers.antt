use Rattle.mc_lower.proofs.Readying.{last_under, ready_turn, ready_turn_none, ready_same, ready_two}
use Rattle.std.proofs.Common.{◌∙◌}
use Rattle.std.proofs.Common.{ap, ◌∙◌, subst, sym}
use Rattle.std.specs.Prelude.{option_map}
use Rattle.mc_semantics.specs.Resolved.Views.{head_of, simple_of}
use Rattle.mc_lower_spec.specs.Lowering.{Finishes, finishes, finishes_none}
use Rattle.mc_lower.specs.Worlds.{stage_of}
use Rattle.mc_flow.specs.declared.instr.Instr.TheVariants.{Skip}
use Rattle.mc_lower_spec.specs.Graphs.{point}
use Rattle.mc_lower.specs.declared.lines.Awaited.{Awaited}
use Rattle.mc_lower.specs.Knowns.{with_label}
use Rattle.mc_lower.proofs.Agreeing.{appended_there, targets}
use Rattle.mc_lower.proofs.Meeting.{turned_there}
use Rattle.mc_lower.proofs.Resting.{pushed, pushed_two}
use Rattle.mc_lower.proofs.builder.Builder.turn_for.Goals as goal

pub returns-in-None-clause-leads : goal.returns-in-None-clause-leads
returns-in-None-clause-leads c = λ w u agrees rest.
    let h = head_of c.args.head.now in
    let out = w.out c.args.context.occurrence in
    let m = stage_of w c.land.new.self in
    let r = pushed w _ _ m u c.in_ok-push.ensures rest in
    let landed = c.in_ok-land.ensures.leads (Awaited.Goal c.args.turns.turn) (with_label c.args.turns.exit c.requires.waits.0) c.requires.waits.1 w agrees in
    let to = targets _ _ _ c.target.ensures c.next-next.ensures in
    let there = appended_there w _ _ h.place _ _ (λ q. Skip q) _ _ (ap (λ q. Skip (point (w.at q.0))) to) landed.1 in
    let last = subst (λ o. Finishes w.graph out (option_map simple_of o) m m) (sym c.in-None.is) finishes_none in
    (landed.0, (r.0, turned_there w.graph out h (w.at c.args.begin.0) (w.at c.args.turns.turn.0) there.0 (w.at c.args.turns.exit.0) _ m m r.0 there.1 there.2 last r.1, r.2))

pub returns-in_ok-push-in-Some-clause-leads : goal.returns-in_ok-push-in-Some-clause-leads
returns-in_ok-push-in-Some-clause-leads c = λ w u agrees rest.
    let h = head_of c.args.head.now in
    let out = w.out c.args.context.occurrence in
    let m = stage_of w c.land.new.self in
    let r = pushed_two w _ _ _ _ _ m u c.in_ok-push-in-Some.ensures c.in_ok-push.ensures rest in
    let landed = c.in_ok-land.ensures.leads (Awaited.Goal c.args.turns.turn) (with_label c.args.turns.exit c.requires.waits.0) c.requires.waits.1 w agrees in
    let to = targets _ _ _ c.target.ensures c.next-next.ensures in
    let there = appended_there w _ _ h.place _ _ (λ q. Skip q) _ _ (ap (λ q. Skip (point (w.at q.0))) to) landed.1 in
    let last = subst (λ o. Finishes w.graph out (option_map simple_of o) m r.0) (sym c.in-Some.is) (finishes r.1) in
    (landed.0, (r.2.0, turned_there w.graph out h (w.at c.args.begin.0) (w.at c.args.turns.turn.0) there.0 (w.at c.args.turns.exit.0) _ m r.0 r.2.0 there.1 there.2 last r.2.1, r.2.2))

pub land-requires : goal.land-requires
land-requires c = (Awaited.Goal c.args.turns.turn, with_label c.args.turns.exit c.requires.waits.0, c.requires.waits.1)

pub returns-in-None-clause-ready : goal.returns-in-None-clause-ready
returns-in-None-clause-ready c = λ k is later.
    let landed = c.in_ok-land.ensures.rest (Awaited.Goal c.args.turns.turn) (with_label c.args.turns.exit k) is in
    ready_same _ _ _ _ landed c.in_ok-push.ensures (ready_turn_none _ _ _ c.args.context.occurrence c.args.head c.args.begin c.args.turns.exit c.args.tasks.now later)

pub returns-in_ok-push-in-Some-clause-ready : goal.returns-in_ok-push-in-Some-clause-ready
returns-in_ok-push-in-Some-clause-ready c = λ k is later.
    let landed = c.in_ok-land.ensures.rest (Awaited.Goal c.args.turns.turn) (with_label c.args.turns.exit k) is in
    let ready = last_under _ (with_label c.args.turns.exit k) c.args.turns.turn c.args.context.occurrence _ is c.requires.ready in
    ready_two _ _ _ _ _ _ _ landed c.in_ok-push-in-Some.ensures c.in_ok-push.ensures
    (ready_turn k.source k.waiting k.state c.args.context c.args.head (record { ref_ptr = (0, 0); now = c.in-Some.simple }) c.args.begin c.args.turns.exit c.args.tasks.now (ap (λ o. option_map simple_of o) c.in-Some.is) ready later)

pub returns-in-None-clause-source : goal.returns-in-None-clause-source
returns-in-None-clause-source c =
    let k = with_label c.args.turns.exit c.requires.waits.0 in
    let landed = c.in_ok-land.ensures.rest (Awaited.Goal c.args.turns.turn) k c.requires.waits.1 in
    ap (λ x. x.source) landed ∙ sym (ap (λ x. x.source) c.requires.waits.1)

pub returns-in_ok-push-in-Some-clause-source : goal.returns-in_ok-push-in-Some-clause-source
returns-in_ok-push-in-Some-clause-source c =
    let k = with_label c.args.turns.exit c.requires.waits.0 in
    let landed = c.in_ok-land.ensures.rest (Awaited.Goal c.args.turns.turn) k c.requires.waits.1 in
    ap (λ x. x.source) landed ∙ sym (ap (λ x. x.source) c.requires.waits.1)
