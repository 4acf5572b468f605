use Rattle.mc_state.proofs.Merging.{stands_merged, merged_stands}
use Rattle.mc_state.proofs.laws.merging_is_sound.Goals as goal

pub returns : goal.returns
returns c = record { forth = stands_merged (record { derived = c.derived_is_true.ensures.derived; not_false = c.derived_is_true.ensures.not_false }); back = merged_stands }
