use Rattle.mc_flow.proofs.DefsLemmas.SmallHeaps as proof
use Rattle.mc_flow.proofs.defs.examples.example_segments.Goals as goal

pub returns : goal.returns
returns c = record { one_cell = proof.first_segment; one_less = proof.first_length; itself = proof.itself }
