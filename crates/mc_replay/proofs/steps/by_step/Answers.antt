use Rattle.std.proofs.Common.{sym, subst}
use Rattle.mc_state.specs.declared.line.JoinStep.{JoinStep}
use Rattle.mc_replay.specs.Joined.{seen}
use Rattle.mc_replay.specs.Steps.{ComesTo, by_step}
use Rattle.mc_replay.proofs.FoldLemmas.{if_ok}
use Rattle.mc_replay.proofs.steps.by_step.Goals as goal

pub returns-in-J1-clause-takes : goal.returns-in-J1-clause-takes
returns-in-J1-clause-takes c =
    if_ok c.by_both.result
    (λ done h w same t. subst (λ (z : JoinStep). ComesTo w c.by_both.new.join done (by_step w (seen c.args.join.now) c.args.pair.now z)) (sym c.in-J1.is)
    (h w t)) c.by_both.ensures.takes

pub returns-in-J2-clause-takes : goal.returns-in-J2-clause-takes
returns-in-J2-clause-takes c =
    if_ok c.by_both-in-J2.result
    (λ done h w same t. subst (λ (z : JoinStep). ComesTo w c.by_both-in-J2.new.join done (by_step w (seen c.args.join.now) c.args.pair.now z)) (sym c.in-J2.is)
    (h w t)) c.by_both-in-J2.ensures.takes

pub returns-in-J3-clause-takes : goal.returns-in-J3-clause-takes
returns-in-J3-clause-takes c =
    if_ok c.by_both-in-J3.result
    (λ done h w same t. subst (λ (z : JoinStep). ComesTo w c.by_both-in-J3.new.join done (by_step w (seen c.args.join.now) c.args.pair.now z)) (sym c.in-J3.is)
    (h w t)) c.by_both-in-J3.ensures.takes
