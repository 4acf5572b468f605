use Rattle.std.proofs.Common.{◌∷◌, ◌++◌, []}
use Rattle.mc_judge.specs.Documents.{IsTaken}
use Rattle.mc_judge.proofs.JudgeLemmas.Standing.{not_taken, taken_more}
use Rattle.mc_judge.proofs.judge.stage.taken.Goals as goal

pub returns-in-Ok : goal.returns-in-Ok
returns-in-Ok c = λ flow defs texts bytes number one k right at.
    let taken : IsTaken c.args.line.now c.args.document c.apply.new.self = c.in-Ok.ensures in
    let n = taken_more k flow defs texts bytes c.args.line.now c.args.document c.apply.new.self at.0 at.1 at.3 one taken in
    c.applied.ensures k flow defs (texts ++ bytes ∷ []) n.next n.reading n.stands

pub returns : goal.returns
returns c = λ flow defs texts bytes number one k right at.
    not_taken k flow defs texts bytes c.args.line.now c.args.document c.apply.new.self at.0 c.args.number c.name_of.result
    c.in-Err.fault c.unmet.result number at.1 at.2 at.3 one c.name_of.ensures c.in-Err.ensures
    c.unmet.ensures.premise c.unmet.ensures.memory
