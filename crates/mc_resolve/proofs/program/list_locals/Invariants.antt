use Rattle.std.proofs.Common.{◌≡◌, map, take}
use Rattle.mc_semantics.specs.Resolved.Resolving.{local_of as resolved_local}
use Rattle.mc_semantics.specs.Resolved.Views.{local_of}
use Rattle.mc_c_types.specs.Held.{variable_held}
use Rattle.mc_resolve.proofs.program.list_locals.Given as goal

abbrev pub invariant-loop-variable : goal.invariant-loop-variable
invariant-loop-variable l = map local_of l.locals.items ≡ map resolved_local (map variable_held (take l.variable-index l.variables))
