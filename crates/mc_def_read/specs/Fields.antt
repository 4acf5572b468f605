-- The names of a struct's fields, as they are kept.
use Rattle.std.specs.Prelude.{List, ℕ, map}
use Rattle.mc_def_read.specs.declared.held.Fields.{Fields}
use Rattle.mc_def_read.specs.declared.held.Fields.TheVariants.{Few, Many}

abbrev pub fields_of : Fields → List (List ℕ)
fields_of (Few fields) = map (λ field. field.name) fields.now
fields_of (Many names) = names
