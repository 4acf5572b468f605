use Rattle.mc_c_types.specs.Held.{variables_held}
use Rattle.mc_c_check.proofs.Commands.{asserted_use, assumed_use}
use Rattle.mc_c_check.proofs.shapes.check_shape.Goals as goal

pub returns-in-Assumed : goal.returns-in-Assumed
returns-in-Assumed c =
    rw c.in-Assumed.is
    (assumed_use c.args.defs.now c.args.walk.now.scope (variables_held c.visible.result.now) c.args.told.now.fault c.check_command.new.told.fault c.in-Assumed.shape.now.place c.in-Assumed.shape.now.predicate c.in-Assumed.shape.now.variable c.variable_type.result c.as_slice.result.now c.in-Assumed.shape.now.arguments.items
    c.visible.ensures c.variable_type.ensures c.as_slice.ensures.value c.check_command.ensures)

pub returns-in-Asserted : goal.returns-in-Asserted
returns-in-Asserted c =
    rw c.in-Asserted.is
    (asserted_use c.args.defs.now c.args.walk.now.scope (variables_held c.visible.result.now) c.args.told.now.fault c.check_command-in-Asserted.new.told.fault c.in-Asserted.shape.now.place c.in-Asserted.shape.now.predicate c.in-Asserted.shape.now.start c.argument_type-start.result c.argument_place-place.result c.as_slice-in-Asserted.result.now c.in-Asserted.shape.now.arguments.items
    c.visible.ensures c.argument_type-start.ensures (c.argument_place-place.ensures (variables_held c.visible.result.now)) c.as_slice-in-Asserted.ensures.value c.check_command-in-Asserted.ensures)
