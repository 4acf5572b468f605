use Rattle.mc_pure.proofs.True.{blocks_at_one_node, block_at_null, empty_range}
use Rattle.mc_pure.proofs.contradictions_are_false.Goals as goal

pub returns : goal.returns
returns c = record { one_node = blocks_at_one_node; at_null = block_at_null; empty = empty_range }
