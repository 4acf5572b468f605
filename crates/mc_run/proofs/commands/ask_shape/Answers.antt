use Rattle.std.proofs.Common.{map}
use Rattle.mc_flow.specs.Values.{all_there}
use Rattle.mc_semantics.specs.Waiting.Requests.{a_shape}
use Rattle.mc_semantics.specs.Resolved.Steps.{argument_value}
use Rattle.mc_semantics.specs.Resolved.Views.{argument_of}
use Rattle.mc_run_values.specs.Script.Models.{block}
use Rattle.mc_run_values.specs.Tasks.Going.{tasks_of, values_of}
use Rattle.mc_run_values.specs.declared.values.refusal.Refusal.TheVariants.{Missing, NotAllowed, Unreadable}
use Rattle.mc_run_values.proofs.ValuesLemmas.Answering.{choice_refused, missing_refused, unreadable_refused}
use Rattle.mc_run.specs.Models.{config_of}
use Rattle.mc_run.proofs.Assuming.{assume_added, assume_refused}
use Rattle.mc_run.proofs.commands.ask_shape.Goals as goal

pub returns-in-Missing : goal.returns-in-Missing
returns-in-Missing c =
    let answers = rw c.in-Missing.is at c.in_ok-ask.ensures in
    assume_refused c.args.program.structs.now c.args.program.defs.now c.args.shape.now.predicate (tasks_of c.args.machine.now.work) (values_of c.args.machine.now.work) c.args.machine.now.heap c.args.shape.now.variable c.args.shape.now.place (all_there (map (argument_value (values_of c.args.machine.now.work)) (map argument_of c.args.shape.now.arguments.items))) c.args.arguments.now Missing (config_of c.args.machine.now) c.args.script.now c.ask.new.self c.requires (missing_refused c.args.program.structs.now (a_shape c.args.program.defs.now c.args.shape.now.predicate c.args.arguments.now c.args.machine.now.heap) c.args.script.now c.ask.new.self answers)

pub returns-in-Unreadable : goal.returns-in-Unreadable
returns-in-Unreadable c =
    let answers = rw c.in-Unreadable.is at c.in_ok-ask.ensures in
    assume_refused c.args.program.structs.now c.args.program.defs.now c.args.shape.now.predicate (tasks_of c.args.machine.now.work) (values_of c.args.machine.now.work) c.args.machine.now.heap c.args.shape.now.variable c.args.shape.now.place (all_there (map (argument_value (values_of c.args.machine.now.work)) (map argument_of c.args.shape.now.arguments.items))) c.args.arguments.now Unreadable (config_of c.args.machine.now) c.args.script.now c.ask.new.self c.requires (unreadable_refused c.args.program.structs.now (a_shape c.args.program.defs.now c.args.shape.now.predicate c.args.arguments.now c.args.machine.now.heap) c.args.script.now c.ask.new.self answers)

pub returns-in-Choice-Input : goal.returns-in-Choice-Input
returns-in-Choice-Input c =
    let answers = rw (c.in-Choice-Input.is, c.in-Choice-Input.field-0-is) at c.in_ok-ask.ensures in
    assume_refused c.args.program.structs.now c.args.program.defs.now c.args.shape.now.predicate (tasks_of c.args.machine.now.work) (values_of c.args.machine.now.work) c.args.machine.now.heap c.args.shape.now.variable c.args.shape.now.place (all_there (map (argument_value (values_of c.args.machine.now.work)) (map argument_of c.args.shape.now.arguments.items))) c.args.arguments.now NotAllowed (config_of c.args.machine.now) c.args.script.now c.ask.new.self c.requires (choice_refused c.args.program.structs.now (a_shape c.args.program.defs.now c.args.shape.now.predicate c.args.arguments.now c.args.machine.now.heap) c.args.script.now c.ask.new.self _ answers (λ x. x))

pub returns-in-Choice-Malloc : goal.returns-in-Choice-Malloc
returns-in-Choice-Malloc c =
    let answers = rw (c.in-Choice-Malloc.is, c.in-Choice-Malloc.field-0-is) at c.in_ok-ask.ensures in
    assume_refused c.args.program.structs.now c.args.program.defs.now c.args.shape.now.predicate (tasks_of c.args.machine.now.work) (values_of c.args.machine.now.work) c.args.machine.now.heap c.args.shape.now.variable c.args.shape.now.place (all_there (map (argument_value (values_of c.args.machine.now.work)) (map argument_of c.args.shape.now.arguments.items))) c.args.arguments.now NotAllowed (config_of c.args.machine.now) c.args.script.now c.ask.new.self c.requires (choice_refused c.args.program.structs.now (a_shape c.args.program.defs.now c.args.shape.now.predicate c.args.arguments.now c.args.machine.now.heap) c.args.script.now c.ask.new.self _ answers (λ x. x))

pub returns-in_ok-stepped-in-Choice-Shape : goal.returns-in_ok-stepped-in-Choice-Shape
returns-in_ok-stepped-in-Choice-Shape c =
    let answers = rw (c.in-Choice-Shape.is, c.in-Choice-Shape.field-0-is) at c.in_ok-ask.ensures in
    assume_added c.args.program.structs.now c.args.program.defs.now c.args.shape.now.predicate (tasks_of c.args.machine.now.work) (values_of c.args.machine.now.work) c.args.machine.now.heap c.args.shape.now.variable c.args.shape.now.place (all_there (map (argument_value (values_of c.args.machine.now.work)) (map argument_of c.args.shape.now.arguments.items))) c.args.arguments.now c.in-Choice-Shape.given.value (map block c.in-Choice-Shape.given.blocks) c.in_ok-stepped-in-Choice-Shape.stepped (config_of c.add_shape.new.machine) c.args.script.now c.ask.new.self c.requires answers c.in_ok-stepped-in-Choice-Shape.ensures
