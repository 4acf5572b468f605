use Rattle.std.specs.Prelude.{All}
use Rattle.mc_c_syntax.specs.Ast.Views.{unit_of}
use Rattle.mc_tries.specs.Found.{IsFound}
use Rattle.mc_tries.proofs.found.all_confirmed.Given as goal

abbrev pub invariant-loop-candidate : goal.invariant-loop-candidate
invariant-loop-candidate l = All (IsFound l.bound.typed.entry (unit_of l.bound.typed.unit) l.bound.defs) l.list.items
