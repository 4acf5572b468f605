use Rattle.mc_rules_logic.specs.Fold.ChangeJudges.{merging_nodes}
use Rattle.mc_check_line.proofs.logic.merge.Goals as goal

pub returns : goal.returns
returns c = λ know tells.
    let s = c.args.branch.state in
    c.merged.ensures (merging_nodes know c.args.keep c.args.gone s) s (c.merge_nodes-done.ensures know tells)
