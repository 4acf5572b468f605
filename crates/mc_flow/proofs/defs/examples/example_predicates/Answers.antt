use Rattle.mc_flow.proofs.DefsLemmas.SmallHeaps.{null_list, two_list, two_long, two_tree}
use Rattle.mc_flow.proofs.DefsLemmas.NotHere as proof
use Rattle.mc_flow.proofs.defs.examples.example_predicates.Goals as goal

pub returns : goal.returns
returns c = record { empty_list = null_list; two_cells = two_list; length_two = two_long; no_length_three = proof.no_three; tree = two_tree; no_tree = proof.no_tree }
