use Rattle.std.proofs.Common.{ap, map, ◌∙◌}
use Rattle.mc_c_syntax.specs.Ast.Views.{declaration_of, initial_of, start_of}
use Rattle.mc_c_types.specs.Held.{tables_held}
use Rattle.mc_c_types.specs.Scopes.{behind_items}
use Rattle.mc_c_walk.proofs.Keeps.{head_begun}
use Rattle.mc_resolve.proofs.declarations.resolve_start.Goals as goal

pub returns-in_ok-variables-in-Declaration-clause-scope : goal.returns-in_ok-variables-in-Declaration-clause-scope
returns-in_ok-variables-in-Declaration-clause-scope c =
    let t = tables_held c.args.naming.tables.now in
    let declaration = c.in-Declaration.declaration in
    head_begun t c.args.scope.now c.enter.new.self c.resolve_items.new.scope c.make_head.new.self (declaration_of declaration) (start_of c.args.start.now) c.marks-marks.result
    (ap start_of c.in-Declaration.is) c.marks-marks.ensures.heads c.marks-marks.ensures.own c.enter.ensures
    (c.in_ok-items-in-Declaration.ensures.scope ∙ ap (λ items. behind_items t declaration.base c.enter.new.self (map initial_of items)) c.as_slice-items.ensures.value)
    c.make_head.ensures
