use Rattle.mc_pure.specs.Known.{pure_of}
use Rattle.mc_pure.proofs.Finding.{below_stays}
use Rattle.mc_pure.proofs.close.first_of.Goals as goal

pub returns-in-Some : goal.returns-in-Some
returns-in-Some c = below_stays (pure_of c.args.known.now) c.args.rows.now c.in-Some.place _ c.requires.sound c.place.ensures.rise c.in-Some.ensures.at c.args.change.now c.requires.order c.requires.zero c.least_of.ensures
