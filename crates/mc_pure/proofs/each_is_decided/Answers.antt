use Rattle.std.proofs.Common.{inl, inr}
use Rattle.mc_pure.specs.Rows.{view}
use Rattle.mc_pure.proofs.Closing.{closes}
use Rattle.mc_pure.proofs.Deciding.{normal}
use Rattle.mc_pure.proofs.Placed.{own_least}
use Rattle.mc_pure.proofs.Telling.{decided}
use Rattle.mc_pure.proofs.each_is_decided.Goals as goal

pub returns-clause-normal : goal.returns-clause-normal
returns-clause-normal c = λ p rise fit. elim (closes p rise fit) [
  | inl k ↦ inl k
  | inr k ↦ inr (record { nf = view k.0; normal = normal p k.0 k.1 k.2; least = λ a n. own_least p k.0 k.1 k.2 a n })
]

pub returns-clause-decided : goal.returns-clause-decided
returns-clause-decided c = λ p rise fit. decided p (closes p rise fit)
