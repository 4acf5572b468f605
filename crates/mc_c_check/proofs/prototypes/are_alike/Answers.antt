use Rattle.std.proofs.Common.{◌≡◌, ap, map, sym, true, ◌∙◌}
use Rattle.std.specs.Prelude.{is_some}
use Rattle.mc_c_syntax.specs.Ast.Names.{is_same}
use Rattle.mc_c_syntax.specs.Ast.Views.{function_of}
use Rattle.mc_c_types.specs.Held.{tables_held}
use Rattle.mc_c_types.specs.Tables.{returned_type}
use Rattle.mc_c_check.proofs.Agreements.{type_of}
use Rattle.mc_c_check.proofs.Alike.{are_alike}
use Rattle.mc_c_check.proofs.prototypes.are_alike.Goals as goal

pub returns : goal.returns
returns c =
    λ e.
    let t = tables_held c.args.tables.now in
    let left = c.args.left.now in
    let right = c.args.right.now in
    let name : is_same left.name.text right.name.text ≡ true = sym c.is_same.ensures ∙ c.if-not-is_same.false in
    let defined : is_some left.body ≡ is_some right.body = sym c.is_some.ensures ∙ c.is_one_test.ensures c.if-not-is_one_test.false ∙ c.is_some-2.ensures in
    let result : returned_type t (function_of left).returned ≡ returned_type t (function_of right).returned =
    sym c.returned_type-left_result.ensures ∙ c.is_one_result.ensures c.if-not-is_one_result.false ∙ c.returned_type-right_result.ensures in
    are_alike t left right name defined result
    (ap (map (type_of t)) (sym c.parameters.ensures) ∙ c.are_one.ensures e ∙ ap (map (type_of t)) c.parameters-2.ensures)
