use Rattle.std.proofs.Common.{◌≡◌, map, sym, true}
use Rattle.mc_c_syntax.specs.Ast.Views.{function_of}
use Rattle.mc_c_types.specs.Held.{tables_held}
use Rattle.mc_c_types.specs.Tables.{listed_parameters, same_result, returned_type}
use Rattle.mc_c_types.specs.Types.{all_agree}
use Rattle.mc_c_check.proofs.Agreements.{same_types, type_of}
use Rattle.mc_c_check.proofs.prototypes.same_type.Goals as goal

pub returns-then-same_result : goal.returns-then-same_result
returns-then-same_result c =
    let f = function_of c.args.left.now in
    let g = function_of c.args.right.now in
    let left = c.parameters.ensures in
    let right = c.parameters-then-same_result.ensures in
    let given : c.same_parameters.result ≡ all_agree (map (type_of (tables_held c.args.tables.now)) (listed_parameters f.parameters)) (map (type_of (tables_held c.args.tables.now)) (listed_parameters g.parameters)) =
    rw (sym left) (rw (sym right) c.same_parameters.ensures) in
    let results : true ≡ same_result (returned_type (tables_held c.args.tables.now) f.returned) (returned_type (tables_held c.args.tables.now) g.returned) =
    rw (sym c.returned_type.ensures) (rw (sym c.returned_type-2.ensures) c.if-same_result.ensures) in
    same_types (tables_held c.args.tables.now) f g true c.same_parameters.result results given
