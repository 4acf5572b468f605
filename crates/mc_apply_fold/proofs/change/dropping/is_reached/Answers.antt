use Rattle.mc_state.specs.Facts.{IsReached}
use Rattle.mc_rules_logic.specs.Fold.ChangeJudges.{is_reached}
use Rattle.mc_apply_fold.proofs.ChangeLemmas.Naming.{one_test}
use Rattle.mc_apply_fold.proofs.change.dropping.is_reached.Goals as goal

pub returns : goal.returns
returns c = λ know tells.
    one_test (IsReached c.args.s.now c.args.node) c.in_ok-reached.reached (is_reached know c.args.s.now c.args.node)
    c.in_ok-reached.ensures (c.naming_is_judged.ensures.reached know c.args.s.now c.args.node c.is_bounded.ensures.bounded tells)
