use Rattle.std.proofs.Common.{◌≡◌, drop}
use Rattle.mc_state.specs.State.{without_vars}
use Rattle.mc_symbolic.proofs.changes.batches.forget_vars.Given as goal

abbrev pub invariant-loop-x : goal.invariant-loop-x
invariant-loop-x l = without_vars l.s (drop l.x-index l.vars) ≡ without_vars l.fn.s l.vars
