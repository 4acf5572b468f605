use Rattle.std.proofs.Common.{◌++◌, ◌-◌, ◌≤◌, ◌∙◌, arith, length}
use Rattle.std.proofs.lemmas.List.{take_all}
use Rattle.mc_app.proofs.Causes.{still}
use Rattle.mc_app.proofs.Hearing.{front_more, heard_more}
use Rattle.mc_app.proofs.documents.hear.Goals as goal

pub loop-at-preserved : goal.loop-at-preserved
loop-at-preserved g c =
    let before = c.loop-at.invariant.heard in
    let more = c.in_ok-n.ensures.heard in
    record {
      heard = (
        before.0 ++ more.0,
        heard_more before.0 more.0 c.loop-at.judge c.next_heard.new.judge c.next_heard.ensures.same_judge before.1 more.2,
        λ bytes h. front_more bytes before.0 more.0 c.loop-at.at c.in_ok-n.n (before.2 bytes h) (more.3 bytes (c.loop-at.invariant.same c.args.name.now ∙ h)),
      );
      within = λ bytes h.
          let before : c.loop-at.at ≤ length bytes = c.loop-at.invariant.within bytes h in
          let more : c.in_ok-n.n ≤ length bytes - c.loop-at.at = c.in_ok-n.ensures.within bytes (c.loop-at.invariant.same c.args.name.now ∙ h) in
          omega arith;
      no_further = c.in_ok-n.ensures.bound;
      same_judge = (c.next_heard.ensures.same_judge.0 ∙ c.loop-at.invariant.same_judge.0, c.next_heard.ensures.same_judge.1 ∙ c.loop-at.invariant.same_judge.1);
      same = λ name. c.next_heard.ensures.same name ∙ c.loop-at.invariant.same name;
      count = still c.in_ok-n.n _ _ c.in_ok-n.ensures.cause ∙ c.loop-at.invariant.count;
    }

pub returns-then-n-eq0-clause-heard : goal.returns-then-n-eq0-clause-heard
returns-then-n-eq0-clause-heard g c =
    let before = c.loop-at.invariant.heard in
    let more = c.in_ok-n.ensures.heard in (
      before.0 ++ more.0,
      heard_more before.0 more.0 c.loop-at.judge c.next_heard.new.judge c.next_heard.ensures.same_judge before.1 more.2,
      λ bytes h e.
          let room = c.requires.room in
          let kept = c.loop-at.auto.buf in
          let past : length bytes ≤ c.loop-at.at = c.in_ok-n.ensures.ended bytes (c.loop-at.invariant.same c.args.name.now ∙ h) c.if-n-eq0.true (omega arith) in
          let inside = c.loop-at-test.true in
          absurd (omega arith),
    )

pub returns-clause-heard : goal.returns-clause-heard
returns-clause-heard g c =
    let before = c.loop-at.invariant.heard in
    (before.0, before.1, λ bytes h e. before.2 bytes h ∙ take_all c.loop-at.at bytes (let past = c.loop-at-test.false in omega arith))
