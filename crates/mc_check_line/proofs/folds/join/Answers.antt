use Rattle.mc_rules_logic.specs.Fold.Judges.{joining_segs}
use Rattle.mc_check_line.proofs.folds.join.Goals as goal

pub returns : goal.returns
returns c = λ know tells.
    let s = c.args.branch.state in
    c.folded.ensures (joining_segs know c.args.first c.args.second s) s (c.join_segs-done.ensures know tells)
