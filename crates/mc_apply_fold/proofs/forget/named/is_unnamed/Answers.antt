use Rattle.mc_apply_fold.proofs.ForgetLemmas.Unnamed.{unnamed_told}
use Rattle.mc_apply_fold.proofs.forget.named.is_unnamed.Goals as goal

pub returns-clause-derived : goal.returns-clause-derived
returns-clause-derived c = rw c.stands_nowhere.ensures (unnamed_told c.args.node c.args.state.now)
