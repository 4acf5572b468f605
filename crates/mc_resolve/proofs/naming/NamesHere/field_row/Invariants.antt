use Rattle.std.proofs.Common.{◌≡◌, ◌++◌, map, drop}
use Rattle.mc_semantics.specs.Resolved.Resolving.{resolved_fields}
use Rattle.mc_semantics.specs.Resolved.Views.{field_of}
use Rattle.mc_c_types.specs.Held.{tables_held}
use Rattle.mc_resolve.proofs.naming.NamesHere.field_row.Given as goal

abbrev pub invariant-loop-field : goal.invariant-loop-field
invariant-loop-field l =
    map field_of l.made.items ++ resolved_fields (tables_held l.self.naming.tables.now) l.found (drop l.field-index l.fields) ≡ resolved_fields (tables_held l.self.naming.tables.now) l.initial.found l.fields
