use Rattle.std.proofs.Common.{ℕ, ap}
use Rattle.mc_c_types.specs.Held.{tables_held}
use Rattle.mc_semantics.specs.Values.{struct_behind}
use Rattle.mc_semantics.specs.Resolved.Programs.{FieldAt}
use Rattle.mc_resolve.proofs.FieldNumbers.{field_number_of}
use Rattle.mc_resolve.proofs.naming.NamesHere.field.Goals as goal

pub returns : goal.returns
returns c =
    rw (c.number.ensures, c.struct_behind-shape.ensures)
    (ap (λ (k : ℕ). let r : FieldAt = record { shape = struct_behind c.args.pointer; field = k } in r)
    (field_number_of (tables_held c.args.self.now.naming.tables.now) c.args.self.now.naming.fields.now.structs.items c.args.pointer c.args.field.now c.requires.fields))
