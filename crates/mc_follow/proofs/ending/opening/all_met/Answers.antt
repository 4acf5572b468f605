use Rattle.std.proofs.Common.{reverse, refl, arith}
use Rattle.mc_cover.specs.declared.goals.Mark.TheVariants.{AtEnd}
use Rattle.mc_follow.specs.Ending.Making.{setting_in}
use Rattle.mc_follow.proofs.EndingLemmas.Leading.{goal_open, next_fits, opening_end, opening_start, opening_step, told}
use Rattle.mc_follow.proofs.ending.opening.all_met.Goals as goal

pub loop-mark-init : goal.loop-mark-init
loop-mark-init c = λ know tells.
    opening_start (setting_in know c.args.defs.now c.args.state.now) c.args.first c.args.marks.now _ _ c.new-left.result.items c.push.new.self.items c.requires.plain (c.requires.marks know tells) refl
    c.new-mets.ensures.items c.new-left.ensures.items c.in_ok-push.ensures.items

pub loop-mark-preserved : goal.loop-mark-preserved
loop-mark-preserved c = λ know tells.
    opening_step (setting_in know c.args.defs.now c.args.state.now) c.args.first c.args.marks.now c.loop-mark.mark-index _ c.loop-mark.mets.items _ (reverse c.loop-mark.left.items)
    (reverse c.take_goal.new.left.items) (reverse c.open_mark.new.left.items) c.push-in-loop-mark.new.self.items _ (c.loop-mark.invariant know tells) c.loop-mark-test.true (omega arith) refl
    c.in_ok-push-2.ensures.items c.in-Some.ensures (λ f s. c.in_ok-names.ensures know f s)

pub returns : goal.returns
returns c = λ know tells.
    opening_end (setting_in know c.args.defs.now c.args.state.now) c.args.first c.args.marks.now c.loop-mark.mark-index c.loop-mark.mets.items (reverse c.loop-mark.left.items) c.loop-mark-test.false
    (c.loop-mark.invariant know tells)

pub unreachable-requires : goal.unreachable-requires
unreachable-requires c =
    let t = told c.each_is_decided.ensures.decided c.args.state.now c.is_bounded.ensures.bounded c.is_bounded.ensures.atoms in
    goal_open (setting_in t.0 c.args.defs.now c.args.state.now) c.args.first c.args.marks.now c.loop-mark.mark-index c.loop-mark.mets.items (reverse c.loop-mark.left.items) AtEnd
    (c.loop-mark.invariant t.0 t.1) c.loop-mark-test.true c.in-None.ensures

pub open_mark-requires-clause-fits : goal.open_mark-requires-clause-fits
open_mark-requires-clause-fits c =
    let t = told c.each_is_decided.ensures.decided c.args.state.now c.is_bounded.ensures.bounded c.is_bounded.ensures.atoms in (
      t.0,
      (next_fits (setting_in t.0 c.args.defs.now c.args.state.now) c.args.first c.args.marks.now c.loop-mark.mark-index c.loop-mark.mets.items (reverse c.loop-mark.left.items)
          (reverse c.take_goal.new.left.items) c.in-Some.goal _ (c.loop-mark.invariant t.0 t.1) c.loop-mark-test.true c.in-Some.ensures).0,
    )

pub open_mark-requires-clause-plain : goal.open_mark-requires-clause-plain
open_mark-requires-clause-plain c =
    let t = told c.each_is_decided.ensures.decided c.args.state.now c.is_bounded.ensures.bounded c.is_bounded.ensures.atoms in
    (next_fits (setting_in t.0 c.args.defs.now c.args.state.now) c.args.first c.args.marks.now c.loop-mark.mark-index c.loop-mark.mets.items (reverse c.loop-mark.left.items)
    (reverse c.take_goal.new.left.items) c.in-Some.goal AtEnd (c.loop-mark.invariant t.0 t.1) c.loop-mark-test.true c.in-Some.ensures).1
