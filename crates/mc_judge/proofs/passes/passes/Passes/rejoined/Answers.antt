use Rattle.mc_judge.proofs.PassesLemmas.Put.{joining_unready}
use Rattle.mc_judge.proofs.passes.passes.Passes.rejoined.Goals as goal

pub returns-in-Err-clause-put : goal.returns-in-Err-clause-put
returns-in-Err-clause-put c =
    joining_unready c.args.self.now c.changes_are_parted.ensures.joining c.args.number c.args.steps.now c.in-Err.fault c.in-Err.ensures.refused
