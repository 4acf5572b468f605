use Rattle.mc_exact.proofs.Tracks.{lines_keep_exact, stuck_lacks, stuck_is_real}
use Rattle.mc_exact.proofs.laws.tracks_stay_exact.Goals as goal

pub returns : goal.returns
returns c = record { kept = lines_keep_exact; lacking = stuck_lacks; real = stuck_is_real c.alarms_are_real.ensures }
