use Rattle.mc_c_types.specs.Held.{tables_held}
use Rattle.mc_resolve.proofs.FunctionNumbers.{function_number_of}
use Rattle.mc_resolve.proofs.naming.NamesHere.function.Goals as goal

pub returns : goal.returns
returns c = rw c.number.ensures (function_number_of (tables_held c.args.self.now.naming.tables.now) c.args.self.now.naming.functions.now.names c.args.name.now c.requires.functions)
