use Rattle.std.proofs.Common.{◌≡◌, ◌∙◌, map, rules, sym}
use mir.Syntax.{w64}
use mir.Val.{to_z, of_z}
use Rattle.mc_flow.specs.Values.{all_there}
use Rattle.mc_semantics.specs.Resolved.Steps.{argument_value}
use Rattle.mc_semantics.specs.Resolved.Views.{argument_of}
use Rattle.mc_run_values.specs.Tasks.Going.{tasks_of, values_of}
use Rattle.mc_run.proofs.Assuming.{assert_holds, somewhere}
use Rattle.mc_run.proofs.commands.assert.Goals as goal

pub returns-in-Some-found : goal.returns-in-Some-found
returns-in-Some-found c = λ choices.
    let made = rw (c.in-Some-2.is, c.as_slice.ensures.value) at c.in_ok-arguments.ensures in
    let d : to_z w64 (of_z w64 c.in-Some.start) ≡ c.in-Some.start = search rules in
    let met = rw (d, c.in-Some-found.is, c.as_slice-2.ensures.value) at c.in_ok-found.ensures in
    assert_holds c.args.program.defs.now c.args.shape.now.predicate (tasks_of c.args.machine.now.work) (values_of c.args.machine.now.work) c.args.machine.now.heap c.args.shape.now.place (argument_value (values_of c.args.machine.now.work) (argument_of c.args.shape.now.start)) (all_there (map (argument_value (values_of c.args.machine.now.work)) (map argument_of c.args.shape.now.arguments.items))) choices c.in-Some.start c.in-Some-2.arguments.items (sym c.value_of.ensures ∙ c.in-Some.is) (sym made)
    (somewhere c.args.program.defs.now c.args.shape.now.predicate c.in-Some.start c.in-Some-2.arguments.items c.args.machine.now.heap c.in-Some-found.field-0.items met)
