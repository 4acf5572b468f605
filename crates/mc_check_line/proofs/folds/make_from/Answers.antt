use Rattle.mc_rules_logic.specs.Fold.Judges.{making_seg}
use Rattle.mc_check_line.proofs.folds.make_from.Goals as goal

pub returns : goal.returns
returns c = λ know tells.
    let s = c.args.branch.state in
    let seg = c.args.seg.now in
    c.folded.ensures (making_seg know c.args.defs.now seg.pred seg.at seg.args seg.end seg.end_args s) s (c.make_seg-done.ensures know tells)
