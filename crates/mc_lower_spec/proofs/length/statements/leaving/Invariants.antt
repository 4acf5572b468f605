use Rattle.std.proofs.Common.{Contains}
use Rattle.mc_lower_spec.proofs.LengthLemmas.Firsts.{AllTo}
use Rattle.mc_lower_spec.proofs.length.statements.leaving.Given as goal

abbrev pub invariant-loop-at : goal.invariant-loop-at
invariant-loop-at l = AllTo (λ i x. Contains l.made x → ⊥) l.at l.numbers
