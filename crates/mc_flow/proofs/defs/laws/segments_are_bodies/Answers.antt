use Rattle.mc_flow.proofs.DefsLemmas.Segments.{seg_begins, seg_of_body}
use Rattle.mc_flow.proofs.defs.laws.segments_are_bodies.Goals as goal

pub returns : goal.returns
returns c = record { begins = seg_begins; of_body = seg_of_body }
