use Rattle.std.proofs.Common.{refl}
use Rattle.mc_joins.proofs.alike.tidy.can_be_merged.Goals as goal

pub returns : goal.returns
returns c = (λ t. (c.if-not-can_merge.ensures.0 refl, c.are_equal.ensures.derived.0 t), λ m. c.are_equal.ensures.derived.1 m.1)
