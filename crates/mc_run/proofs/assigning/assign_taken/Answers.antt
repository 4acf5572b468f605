use Rattle.mc_semantics.specs.Resolved.Values.{assigned}
use Rattle.mc_run_values.specs.Tasks.Going.{tasks_of, values_of}
use Rattle.mc_run.specs.Models.{goal_of, here_of}
use Rattle.mc_run.proofs.Changing.{settles}
use Rattle.mc_run.proofs.assigning.assign_taken.Goals as goal

pub returns : goal.returns
returns c =
    let made = assigned (here_of c.args.machine.now).values (here_of c.args.machine.now).heap (goal_of c.args.goal) c.args.value in
    settles c.settled.result c.assign.result c.args.place (tasks_of c.args.machine.now.work) (tasks_of c.assign.new.machine.work) (values_of c.assign.new.machine.work) c.assign.new.machine.heap made c.settled.ensures c.assign.ensures.tasks c.assign.ensures.change
