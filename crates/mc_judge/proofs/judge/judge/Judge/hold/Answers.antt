use Rattle.std.proofs.Common.{◌≡◌, ◌∙◌, refl, sym, false}
use Rattle.mc_judge.specs.Judge.Stages.{needs_more}
use Rattle.mc_judge.proofs.JudgeLemmas.Hearing.{more_heard, quiet_heard}
use Rattle.mc_judge.proofs.judge.judge.Judge.hold.Goals as goal

pub returns-then-not-branch-clause-heard : goal.returns-then-not-branch-clause-heard
returns-then-not-branch-clause-heard c =
    let quiet : needs_more c.args.self.now.stage ≡ false = sym c.in_ok-needs_more.ensures.ok.1 ∙ c.if-not-branch.true in
    quiet_heard c.args.self.now c.args.bytes.now c.requires.no_feed quiet c.in_ok-needs_more.ensures.ok.0

pub returns-clause-heard : goal.returns-clause-heard
returns-clause-heard c = more_heard c.args.self.now _ c.args.bytes.now c.requires.no_feed (record {
  same = (refl, refl);
  stage = c.replace-stage.ensures.value;
  lines = refl;
  longer = c.in_ok-extend_from_slice.ensures.items;
})
