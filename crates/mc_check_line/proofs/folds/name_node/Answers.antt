use Rattle.std.proofs.Common.{subst}
use Rattle.mc_apply_fold.specs.declared.change.spare.SpareNode.{SpareNode}
use Rattle.mc_rules_logic.specs.Fold.ChangeJudges.{naming_spare}
use Rattle.mc_kernel.specs.Judges.{by_folding}
use Rattle.mc_check_line.specs.Judging.{IsLineAnswer, path, setting_of}
use Rattle.mc_check_line.proofs.folds.name_node.Goals as goal

pub returns : goal.returns
returns c = λ know tells.
    let b = path c.args.branch in
    let Named : SpareNode → Type 0 = λ spare. IsLineAnswer (by_folding (naming_spare know spare.node spare.add spare.kind b.state) (setting_of c.args.setting) b) b c.name.result in
    subst Named c.spare_node-spare.ensures (c.name.ensures know tells)
