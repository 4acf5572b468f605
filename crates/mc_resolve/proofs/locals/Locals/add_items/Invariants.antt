use Rattle.std.proofs.Common.{◌≡◌, ◌++◌, map, take}
use Rattle.mc_c_syntax.specs.Ast.Views.{initial_of}
use Rattle.mc_c_types.specs.Held.{tables_held, variable_held}
use Rattle.mc_c_types.specs.Tables.{variable_of}
use Rattle.mc_resolve.proofs.locals.Locals.add_items.Given as goal

abbrev pub invariant-loop-item : goal.invariant-loop-item
invariant-loop-item l =
    map variable_held l.self
    ≡ map variable_held l.initial.self ++ map (λ item. variable_of (tables_held l.tables) l.declaration.base item.declarator) (map initial_of (take l.item-index l.declaration.items.items))
