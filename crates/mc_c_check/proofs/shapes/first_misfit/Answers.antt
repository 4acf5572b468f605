use Rattle.std.proofs.Common.{ap, map}
use Rattle.mc_c_syntax.specs.Ast.Views.{item_of, unit_of}
use Rattle.mc_c_types.specs.Held.{tables_held}
use Rattle.mc_c_check.proofs.Commands.{misfits}
use Rattle.mc_c_check.proofs.shapes.first_misfit.Goals as goal

pub returns : goal.returns
returns c =
    misfits (unit_of c.args.unit.now) (map item_of c.as_slice.result.now) (tables_held c.in_ok-tables.tables) c.args.defs.now c.new-told.result.fault c.check_items.new.told.fault
    c.in_ok-tables.ensures (ap (map item_of) c.as_slice.ensures.value) c.new-told.ensures c.in_ok-check_items.ensures
