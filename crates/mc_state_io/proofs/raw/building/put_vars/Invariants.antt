use Rattle.std.proofs.Common.{◌≡◌, ◌++◌, take, drop}
use Rattle.mc_state_io.proofs.raw.building.put_vars.Given as goal

abbrev pub invariant-loop-i : goal.invariant-loop-i
invariant-loop-i l = l.state ≡ record l.initial.state { env = take l.i l.nodes ++ drop l.i l.initial.state.env }
