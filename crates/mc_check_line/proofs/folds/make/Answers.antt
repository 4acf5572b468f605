use Rattle.std.proofs.Common.{subst}
use Rattle.mc_apply_fold.specs.declared.change.empty.EmptySeg.{EmptySeg}
use Rattle.mc_rules_logic.specs.Fold.Judges.{making_seg}
use Rattle.mc_kernel.specs.Judges.{by_folding}
use Rattle.mc_check_line.specs.Judging.{IsLineAnswer, path, setting_of}
use Rattle.mc_check_line.proofs.folds.make.Goals as goal

pub returns-in-Ok : goal.returns-in-Ok
returns-in-Ok c = λ know tells.
    let b = path c.args.branch in
    let Made : EmptySeg → Type 0 = λ seg. IsLineAnswer (by_folding (making_seg know c.args.defs.now seg.pred seg.at seg.args seg.end seg.end_args b.state) (setting_of c.args.setting) b) b c.make_from.result in
    subst Made c.in-Ok.ensures (c.make_from.ensures know tells)
