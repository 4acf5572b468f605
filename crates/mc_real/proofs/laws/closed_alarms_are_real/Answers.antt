use Rattle.mc_real.proofs.ExactAlarms.{closed_alarms}
use Rattle.mc_real.proofs.laws.closed_alarms_are_real.Goals as goal

pub returns : goal.returns
returns c =
    closed_alarms c.tracks_stay_exact.ensures.lacking c.closed_programs_ask_for_malloc_alone.ensures c.exact_alarms_are_real.ensures
