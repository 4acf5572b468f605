use Rattle.std.proofs.Common.{sym, ◌∙◌}
use Rattle.mc_replay.specs.Joined.{seen}
use Rattle.mc_replay.proofs.FoldLemmas.{if_ok}
use Rattle.mc_replay.proofs.StepLemmas.{way_given, way_kept}
use Rattle.mc_replay.proofs.steps.step_at.Goals as goal

pub returns-then-branch-clause-takes : goal.returns-then-branch-clause-takes
returns-then-branch-clause-takes c = λ w same t.
    record { joins = way_given w (seen c.args.join.now) c.args.pair.now c.args.step (sym (c.in_ok-gives_way.ensures w same t) ∙ c.if-branch.true); tells = t }

pub returns-clause-takes : goal.returns-clause-takes
returns-clause-takes c =
    if_ok c.by_step.result (λ done h w same t.
    let k = h w same t in
    record {
      joins = way_kept w (seen c.args.join.now) c.args.pair.now c.args.step (sym (c.in_ok-gives_way.ensures w same t) ∙ c.if-branch.false) ∙ k.joins;
      tells = k.tells;
    })
    c.by_step.ensures.takes
