use Rattle.mc_rules_logic.specs.Fold.Judges.{closing_seg}
use Rattle.mc_check_line.proofs.folds.close.Goals as goal

pub returns : goal.returns
returns c = λ know tells.
    let s = c.args.branch.state in
    c.folded.ensures (closing_seg know c.args.first c.args.second s) s (c.close_seg-done.ensures know tells)
