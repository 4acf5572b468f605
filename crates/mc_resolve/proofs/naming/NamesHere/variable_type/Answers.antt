use Rattle.std.proofs.Common.{Some, None}
use Rattle.mc_c_types.specs.Held.{variable_held}
use Rattle.mc_resolve.specs.Named.{visible_at}
use Rattle.mc_resolve.proofs.Seeing.{type_found}
use Rattle.mc_resolve.proofs.naming.NamesHere.variable_type.Goals as goal

pub returns-in-None : goal.returns-in-None
returns-in-None c = type_found (visible_at c.args.self.now) c.args.name.now None c.in-None.ensures

pub returns-in-Some : goal.returns-in-Some
returns-in-Some c = type_found (visible_at c.args.self.now) c.args.name.now (Some (variable_held c.in-Some.found.now)) c.in-Some.ensures
