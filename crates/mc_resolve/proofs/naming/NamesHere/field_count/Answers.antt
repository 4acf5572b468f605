use Rattle.mc_c_types.specs.Held.{tables_held}
use Rattle.mc_resolve.proofs.FunctionNumbers.{field_count_of}
use Rattle.mc_resolve.proofs.naming.NamesHere.field_count.Goals as goal

pub returns : goal.returns
returns c = rw c.count.ensures (field_count_of (tables_held c.args.self.now.naming.tables.now) c.args.self.now.naming.fields.now.structs.items c.args.shape.0 c.requires.fields)
