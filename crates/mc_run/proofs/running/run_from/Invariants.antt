use Rattle.mc_semantics.specs.Resolved.Steps.{start}
use Rattle.mc_semantics.specs.Resolved.Views.{function_of}
use Rattle.mc_run_values.specs.Tasks.Going.{tasks_of, values_of}
use Rattle.mc_run.specs.Models.{program_of}
use Rattle.mc_run.proofs.Changing.{at_config}
use Rattle.mc_run.proofs.Going.{SoFar}
use Rattle.mc_run.proofs.running.run_from.Given as goal

abbrev pub invariant-loop-machine : goal.invariant-loop-machine
invariant-loop-machine l =
    SoFar (program_of l.program) l.program.structs.now (start (function_of l.entry)) l.initial.script l.fuel l.left
    (at_config (tasks_of l.machine.work) (values_of l.machine.work) l.machine.heap) l.script

abbrev pub decreases-loop-machine : goal.decreases-loop-machine
decreases-loop-machine l = l.left
