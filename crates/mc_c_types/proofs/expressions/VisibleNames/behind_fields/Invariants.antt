use Rattle.std.proofs.Common.{◌≡◌, drop}
use Rattle.mc_c_types.specs.Faults.{behind_fields}
use Rattle.mc_c_types.specs.Held.{tables_held}
use Rattle.mc_c_types.proofs.expressions.VisibleNames.behind_fields.Given as goal

abbrev pub invariant-loop-field : goal.invariant-loop-field
invariant-loop-field l =
    behind_fields (tables_held l.self.tables.now) l.found (drop l.field-index l.fields) ≡ behind_fields (tables_held l.self.tables.now) l.initial.found l.fields
