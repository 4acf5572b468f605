use Rattle.std.proofs.Common.{ap}
use Rattle.mc_pure.specs.declared.rows.Row.{Row}
use Rattle.mc_pure.specs.Known.{pure_of}
use Rattle.mc_pure.proofs.Finding.{row_is}
use Rattle.mc_pure.proofs.close.rep_of.Goals as goal

pub returns-in-Some : goal.returns-in-Some
returns-in-Some c = ap (λ (z : Row). z.rep) (row_is (pure_of c.args.known.now) c.args.rows.now c.requires.sound c.in-Some.place c.args.node c.in-Some.ensures.at _)
