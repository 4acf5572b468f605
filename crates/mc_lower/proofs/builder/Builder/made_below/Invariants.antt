use Rattle.std.proofs.Common.{◌<◌}
use Rattle.mc_lower.proofs.Gathering.{Gathers}
use Rattle.mc_lower.proofs.builder.Builder.made_below.Given as goal

abbrev pub invariant-loop-number : goal.invariant-loop-number
invariant-loop-number l = Gathers (λ x. x < l.count) l.occurrence l.self.variables.list.items l.number l.made.items
