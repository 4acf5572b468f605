use Rattle.mc_pure.specs.Known.{pure_of}
use Rattle.mc_pure.proofs.Growing.{flag}
use Rattle.mc_pure.proofs.whole.Pure.is_false.Goals as goal

pub returns : goal.returns
returns c = rw (← c.self.view_is) (flag (pure_of c.self.inside.known) c.self.inside.rows.items c.self.inside.wrong c.self.invariant.1)
