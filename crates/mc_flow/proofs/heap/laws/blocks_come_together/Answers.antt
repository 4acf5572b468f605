use Rattle.mc_flow.proofs.HeapLemmas.Adding.{blocks_are_added, blocks_keep_addresses}
use Rattle.mc_flow.proofs.heap.laws.blocks_come_together.Goals as goal

pub returns : goal.returns
returns c = record { added = blocks_are_added; keeps_addresses = blocks_keep_addresses }
