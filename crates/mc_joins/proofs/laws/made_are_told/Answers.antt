use Rattle.mc_kernel.proofs.OracleLemmas.Known.{know, know_tells}
use Rattle.mc_joins.proofs.laws.made_are_told.Goals as goal

pub returns : goal.returns
returns c defs vars structs = (
  know defs vars structs c.each_is_decided.ensures.decided c.lists_are_there.ensures,
  know_tells defs vars structs c.each_is_decided.ensures.decided c.lists_are_there.ensures,
)
