use Rattle.std.proofs.Common.{map, sym}
use Rattle.mc_flow.specs.Values.{all_there}
use Rattle.mc_semantics.specs.Resolved.Steps.{argument_value}
use Rattle.mc_semantics.specs.Resolved.Views.{argument_of}
use Rattle.mc_run_values.specs.Tasks.Going.{tasks_of, values_of}
use Rattle.mc_run.specs.Models.{config_of}
use Rattle.mc_run.proofs.Assuming.{assume_faults}
use Rattle.mc_run.proofs.commands.assume.Goals as goal

pub ask_shape-requires : goal.ask_shape-requires
ask_shape-requires c =
    let made = rw (c.in-Some.is, c.as_slice.ensures.value) at c.in_ok-arguments.ensures in
    rw c.as_slice-in-Some.ensures.value (sym made)

pub returns-in-None : goal.returns-in-None
returns-in-None c =
    let made = rw (c.in-None.is, c.as_slice.ensures.value) at c.in_ok-arguments.ensures in
    assume_faults c.args.program.structs.now c.args.program.defs.now c.args.shape.now.predicate (tasks_of c.args.machine.now.work) (values_of c.args.machine.now.work) c.args.machine.now.heap c.args.shape.now.variable c.args.shape.now.place (all_there (map (argument_value (values_of c.args.machine.now.work)) (map argument_of c.args.shape.now.arguments.items))) (config_of c.args.machine.now) c.args.script.now (sym made)
