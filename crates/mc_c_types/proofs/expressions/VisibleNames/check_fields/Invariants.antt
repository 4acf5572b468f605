use Rattle.std.proofs.Common.{◌≡◌, drop}
use Rattle.mc_c_types.specs.Faults.{field_faults}
use Rattle.mc_c_types.specs.First.{told_of}
use Rattle.mc_c_types.specs.Held.{tables_held}
use Rattle.mc_c_types.proofs.expressions.VisibleNames.check_fields.Given as goal

abbrev pub invariant-loop-field : goal.invariant-loop-field
invariant-loop-field l =
    told_of l.told.fault (field_faults (tables_held l.self.tables.now) l.found (drop l.field-index l.fields)) ≡ told_of l.initial.told.fault (field_faults (tables_held l.self.tables.now) l.initial.found l.fields)
