use Rattle.mc_pure.specs.Known.{pure_of}
use Rattle.mc_pure.proofs.Finding.{there_is, row_is, row_tame}
use Rattle.mc_pure.proofs.close.find.Goals as goal

pub returns-in-Some-clause-none : goal.returns-in-Some-clause-none
returns-in-Some-clause-none c = there_is (pure_of c.args.known.now) c.args.rows.now c.requires.sound c.in-Some.place c.args.node c.in-Some.ensures.at

pub returns-in-Some-clause-row : goal.returns-in-Some-clause-row
returns-in-Some-clause-row c =
    let p = pure_of c.args.known.now in
    let s = c.requires.sound in
    (row_is p c.args.rows.now s c.in-Some.place c.args.node c.in-Some.ensures.at _, row_tame p c.args.rows.now s c.in-Some.place c.args.node c.in-Some.ensures.at _)
