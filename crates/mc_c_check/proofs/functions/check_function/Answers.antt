use Rattle.std.proofs.Common.{flat_map, map, []}
use Rattle.mc_c_syntax.specs.Ast.Views.{function_of}
use Rattle.mc_c_types.specs.Faults.{body_faults, declarator_faults, repeated, returned_faults}
use Rattle.mc_c_types.specs.Held.{tables_held}
use Rattle.mc_c_types.specs.Tables.{listed_parameters}
use Rattle.mc_c_check.proofs.Rows.{noted_four}
use Rattle.mc_c_check.proofs.functions.check_function.Goals as goal

pub returns : goal.returns
returns c =
    noted_four c.args.told.now.fault c.check_returned.new.told.fault c.check_parameters.new.told.fault c.check_repeated.new.told.fault c.check_body.new.told.fault
    (returned_faults (tables_held c.args.tables.now) (function_of c.args.function.now) c.args.function.now.returned)
    (flat_map (λ p. declarator_faults (tables_held c.args.tables.now) p.base p.declarator) (listed_parameters (function_of c.args.function.now).parameters))
    (repeated [] (map (λ p. p.declarator.name) (listed_parameters (function_of c.args.function.now).parameters)))
    (body_faults (tables_held c.args.tables.now) (function_of c.args.function.now) (function_of c.args.function.now).body)
    c.check_returned.ensures
    (rw c.parameters-parameters.ensures at c.check_parameters.ensures)
    (rw c.parameters-parameters.ensures at (rw c.in_ok-names.ensures at (rw c.as_slice.ensures at c.in_ok-check_repeated.ensures)))
    c.in_ok-check_body.ensures
