use Rattle.mc_cover.proofs.Picked.{first_takes_edges}
use Rattle.mc_cover.proofs.Sound.{first_is_cover, first_is_seg_cover}
use Rattle.mc_cover.proofs.laws.firsts_are_covers.Goals as goal

pub returns : goal.returns
returns c = record { cover = first_is_cover; segment = first_is_seg_cover; edges = first_takes_edges }
