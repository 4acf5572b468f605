use Rattle.mc_judge.proofs.PassesLemmas.Put.{opening_unready}
use Rattle.mc_judge.proofs.passes.passes.Passes.opened.Goals as goal

pub returns-in-Err-clause-put : goal.returns-in-Err-clause-put
returns-in-Err-clause-put c =
    opening_unready c.args.self.now c.changes_are_parted.ensures.opening c.args.tries.now c.in-Err.fault c.in-Err.ensures.refused
