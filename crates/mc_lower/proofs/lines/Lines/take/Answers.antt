use Rattle.mc_lower.proofs.Lined.{lined_pop}
use Rattle.mc_lower.proofs.lines.Lines.take.Goals as goal

pub invariant_of-self : goal.invariant_of-self
invariant_of-self c = record { lined = lined_pop c.args.self.now.lined c.pop.result c.pop.new.self c.pop.ensures }
