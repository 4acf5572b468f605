use Rattle.std.proofs.Common.{arith}
use Rattle.std.proofs.lemmas.Grind.{common_steps}
use Rattle.mc_lower.proofs.Lined.{lined_points}
use Rattle.mc_lower.proofs.lines.Lines.add.Goals as goal

pub invariant_of-self : goal.invariant_of-self
invariant_of-self c = record { lined = lined_points c.args.self.now.lined _ (grind (arith, common_steps)) }
