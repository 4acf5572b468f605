use Rattle.std.proofs.Common.{Some, ap, sym}
use Rattle.mc_joins.specs.Joinings.{Joining}
use Rattle.mc_replay.proofs.ReplayLemmas.{both_good, both_told, leads_on, stops_here, is_reached, replayed}
use Rattle.mc_replay.proofs.answers.replay.Goals as goal

pub loop-place-init : goal.loop-place-init
loop-place-init c =
    let b = c.in_ok-join.ensures in
    record {
      good = both_good c.args.defs.now c.args.left.now c.args.right.now c.in_ok-join.join c.requires.states b.left b.right;
      reached = λ w d t. (ap (λ (j : Joining). Some j) (sym b.seen), both_told w c.args.left.now c.args.right.now c.in_ok-join.join t b.left b.right);
    }

pub loop-place-preserved : goal.loop-place-preserved
loop-place-preserved c = record {
  good = c.in_ok-take_step.ensures.good;
  reached = λ w d t.
      let h = c.loop-place.invariant.reached w d t in
      leads_on w c.args.left.now c.args.right.now c.args.steps.now c.loop-place.place _ c.loop-place-test.true c.loop-place.join c.take_step.new.join
      c.in_ok-take_step.field-0 c.if-not-branch.false (c.in_ok-take_step.ensures.takes w d h.1) h;
}

pub returns-then-not-branch : goal.returns-then-not-branch
returns-then-not-branch c = λ w d t.
    let h = c.loop-place.invariant.reached w d t in
    stops_here w c.args.left.now c.args.right.now c.args.steps.now c.loop-place.place _ c.loop-place-test.true c.loop-place.join c.take_step.new.join
    c.in_ok-take_step.field-0 c.if-not-branch.true (c.in_ok-take_step.ensures.takes w d h.1) h

pub answer-requires-clause-reached : goal.answer-requires-clause-reached
answer-requires-clause-reached c =
    is_reached c.args.defs.now c.args.left.now c.args.right.now c.requires.states c.args.steps.now c.loop-place.place c.loop-place-test.false c.loop-place.join
    c.loop-place.invariant.reached c.made_are_told.ensures

pub returns : goal.returns
returns c =
    replayed c.args.defs.now c.args.left.now c.args.right.now c.requires.states c.args.steps.now c.loop-place.place c.loop-place-test.false c.loop-place.join
    c.loop-place.invariant.reached c.args.round c.args.thresholds.now c.answer.result c.answer.ensures
