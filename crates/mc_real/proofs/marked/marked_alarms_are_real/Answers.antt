use Rattle.mc_real.proofs.MarkedAlarms.{marked_alarms}
use Rattle.mc_real.proofs.marked.marked_alarms_are_real.Goals as goal

pub returns : goal.returns
returns c =
    marked_alarms c.judges_are_there.ensures c.exact_states_are_well_made.ensures c.exact_alarms_are_reached.ensures c.malloc_scripts_are_taken.ensures
    c.faults_are_answered.ensures
