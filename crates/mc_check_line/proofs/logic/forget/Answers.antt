use Rattle.std.proofs.Common.{sym}
use Rattle.mc_rules_logic.specs.Fold.ChangeJudges.{forgetting_node}
use Rattle.mc_check_line.specs.Judging.{path}
use Rattle.mc_check_line.proofs.Answered.{forgets}
use Rattle.mc_check_line.proofs.logic.forget.Goals as goal

pub returns : goal.returns
returns c = λ know atoms tells list.
    let b = path c.args.branch in
    let judged = forgetting_node know atoms c.args.node b.state in
    forgets judged c.args.node b _ (sym c.if-not-goal_is_free.ensures) (c.changed.ensures judged b.state (c.forget_node-done.ensures know atoms tells list))
