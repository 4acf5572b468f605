use Rattle.mc_state.proofs.CoversExamples as proof
use Rattle.mc_state.proofs.covers.example_segment_covers.Goals as goal

pub returns : goal.returns
returns c = record { itself = proof.to_itself; one_cell = proof.one_cell; by_segment = proof.one_segment }
