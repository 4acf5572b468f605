use Rattle.mc_check_line.specs.Judging.{path, setting_of}
use Rattle.mc_check_line.proofs.Answered.{folds_to}
use Rattle.mc_check_line.proofs.folds.folded_to.Goals as goal

pub returns-in-Ok-with_states : goal.returns-in-Ok-with_states
returns-in-Ok-with_states c = λ judged given.
    folds_to judged (setting_of c.args.setting) (path c.args.branch) (path c.closed_by.result) _ _ (rw c.in-Ok.is at given) c.closed_by.ensures c.in-Ok-with_states.ensures
