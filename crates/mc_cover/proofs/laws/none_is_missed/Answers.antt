use Rattle.mc_cover.proofs.Complete.{no_first_no_cover, no_first_no_seg_cover}
use Rattle.mc_cover.proofs.laws.none_is_missed.Goals as goal

pub returns : goal.returns
returns c = record { cover = no_first_no_cover; segment = no_first_no_seg_cover }
