use Rattle.mc_check_line.specs.Judging.{path}
use Rattle.mc_check_line.proofs.Answered.{open_still}
use Rattle.mc_check_line.proofs.unfolds.ind.Goals as goal

pub returns : goal.returns
returns c = λ know tells.
    let given = rw c.accessed-access.ensures at (c.unfold_ind-given.ensures know tells) in
    open_still _ (path c.args.branch) _ c.if-branch.false (c.answered.ensures _ given)
