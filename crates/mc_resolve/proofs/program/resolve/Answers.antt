use Rattle.std.proofs.Common.{ap, map, sym, ◌∙◌}
use Rattle.mc_c_syntax.specs.Ast.Views.{unit_of}
use Rattle.mc_semantics.specs.Resolved.Views.{function_of}
use Rattle.mc_c_types.specs.Held.{tables_held}
use Rattle.mc_c_types.specs.Tables.{tables_of}
use Rattle.mc_resolve.proofs.WholeFunctions.{program_resolved}
use Rattle.mc_resolve.proofs.program.resolve.Goals as goal

pub returns : goal.returns
returns c =
    let bound = c.args.bound.now in
    program_resolved (tables_held c.in_ok-tables.tables) (tables_of (unit_of bound.typed.unit)) bound.defs c.as_slice.result.now (map function_of c.in_ok-functions.functions.items) c.in_ok-names.names.names c.number.result c.in_ok-entry.entry bound.typed.entry
    (c.in_ok-tables.ensures ∙ ap (λ u. tables_of (unit_of u)) (c.unit.ensures ∙ ap (λ t. t.unit) c.typed-typed.ensures))
    (c.as_slice.ensures.same ∙ c.defs.ensures.same) c.in_ok-functions.ensures c.in_ok-names.ensures c.number.ensures
    (c.in_ok-entry.ensures ∙ c.entry.ensures ∙ ap (λ t. t.entry) c.typed-typed.ensures)
