use Rattle.mc_pure.specs.Known.{pure_of}
use Rattle.mc_pure.proofs.Finding.{row_is, row_tame}
use Rattle.mc_pure.proofs.close.row_of.Goals as goal

pub returns-in-Some-clause-is : goal.returns-in-Some-clause-is
returns-in-Some-clause-is c = row_is (pure_of c.args.known.now) c.args.rows.now c.requires.sound c.in-Some.place c.args.node c.in-Some.ensures.at _

pub returns-in-Some-clause-tame : goal.returns-in-Some-clause-tame
returns-in-Some-clause-tame c = row_tame (pure_of c.args.known.now) c.args.rows.now c.requires.sound c.in-Some.place c.args.node c.in-Some.ensures.at _
