use Rattle.mc_judge.proofs.JudgeLemmas.Documents.{goes_on}
use Rattle.mc_judge.proofs.judge.stage.gone_on.Goals as goal

pub returns-in-Ok : goal.returns-in-Ok
returns-in-Ok c = λ flow defs texts number k right at.
    c.taken.ensures flow defs texts c.args.bytes.now number c.in-Ok.ensures.reads k right at

pub returns : goal.returns
returns c = λ flow defs texts number k right at.
    c.no_line.ensures k flow defs texts c.args.bytes.now number (goes_on k flow defs texts at.0 at.1 at.2) c.in-Err.ensures.reads
