use Rattle.mc_flow.proofs.DefsLemmas.Segments.{seg_then_sat, seg_then_seg}
use Rattle.mc_flow.proofs.defs.laws.segments_join.Goals as goal

pub returns : goal.returns
returns c = record { predicate = seg_then_sat; segment = seg_then_seg }
