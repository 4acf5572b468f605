use Rattle.mc_rules_logic.specs.Fold.ChangeJudges.{naming_spare}
use Rattle.mc_check_line.proofs.folds.name.Goals as goal

pub returns : goal.returns
returns c = λ know tells.
    let s = c.args.branch.state in
    let spare = c.args.spare.now in
    c.folded.ensures (naming_spare know spare.node spare.add spare.kind s) s (c.name_spare-done.ensures know tells)
