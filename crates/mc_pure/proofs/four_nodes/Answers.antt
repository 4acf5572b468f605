use Rattle.mc_pure.proofs.FourNodes.{values_are_true, follows_at_one, shifted_range, starts_apart, one_node, null_start, no_number}
use Rattle.mc_pure.proofs.four_nodes.Goals as goal

pub returns : goal.returns
returns c = record { premises = values_are_true; more = follows_at_one; shifted = shifted_range; apart = starts_apart; at_one_node = one_node; at_null = null_start; nothing_between = no_number }
