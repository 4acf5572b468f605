use Rattle.mc_lower.specs.Worlds.{role_of}
use Rattle.mc_lower.proofs.Choosing.{Chooses}
use Rattle.mc_lower.proofs.finishing.of_role.Given as goal

abbrev pub invariant-loop-number : goal.invariant-loop-number
invariant-loop-number l = Chooses l.points (role_of l.role) l.number l.list.items
