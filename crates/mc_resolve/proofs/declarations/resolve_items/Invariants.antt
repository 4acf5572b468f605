use Rattle.std.proofs.Common.{◌≡◌, ◌++◌, map, drop}
use Rattle.mc_c_syntax.specs.Ast.Views.{initial_of as named_initial}
use Rattle.mc_semantics.specs.Resolved.Resolving.{resolved_items}
use Rattle.mc_semantics.specs.Resolved.Views.{initial_of}
use Rattle.mc_c_types.specs.Scopes.{behind_items}
use Rattle.mc_resolve.specs.Named.{naming_held}
use Rattle.mc_resolve.proofs.declarations.resolve_items.Given as goal

abbrev pub invariant-loop-item : goal.invariant-loop-item
invariant-loop-item l =
    (map initial_of l.made.items ++ resolved_items (naming_held l.naming) l.scope l.base (map named_initial (drop l.item-index l.items))
    ≡ resolved_items (naming_held l.naming) l.initial.scope l.base (map named_initial l.items))
    × (behind_items (naming_held l.naming).tables l.base l.scope (map named_initial (drop l.item-index l.items))
    ≡ behind_items (naming_held l.naming).tables l.base l.initial.scope (map named_initial l.items))
