use Rattle.std.specs.Prelude.{Contains}
use Rattle.mc_lower.proofs.Gathering.{Gathers}
use Rattle.mc_lower.proofs.builder.Builder.made_among.Given as goal

abbrev pub invariant-loop-number : goal.invariant-loop-number
invariant-loop-number l = Gathers (λ x. Contains l.numbers x) l.occurrence l.self.variables.list.items l.number l.made.items
