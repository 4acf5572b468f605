use Rattle.mc_flow.proofs.HeapLemmas.Instances.{two_split, nine_split, nowhere_empty, seven_cell, nine_cell, two_star, two_star_at, nine_free, nine_comes, nine_added, nine_gone, nine_replaced, one_at_addresses, same_region}
use Rattle.mc_flow.proofs.heap.laws.two_blocks_are_parts.Goals as goal

pub returns : goal.returns
returns c = record { split = two_split; inner = nine_split; empty = nowhere_empty; first = seven_cell; second = nine_cell; each = two_star; each_but_one = two_star_at; free = nine_free; come = nine_comes; added = nine_added; replaced = nine_replaced; removed = nine_gone; addresses = one_at_addresses; turned = same_region }
