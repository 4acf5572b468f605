use Rattle.mc_pure.specs.Known.{pure_of}
use Rattle.mc_pure.proofs.Stepping.{known_ne}
use Rattle.mc_pure.proofs.close.recheck.Goals as goal

pub touches-requires-clause-left : goal.touches-requires-clause-left
touches-requires-clause-left c = (known_ne (pure_of c.args.known.now) c.args.rows.now c.args.atom.now c.in-Ne.a c.in-Ne.b _ c.requires.sound c.requires.base c.in-Ne.is).0

pub touches-requires-clause-right : goal.touches-requires-clause-right
touches-requires-clause-right c = (known_ne (pure_of c.args.known.now) c.args.rows.now c.args.atom.now c.in-Ne.a c.in-Ne.b _ c.requires.sound c.requires.base c.in-Ne.is).1
