use Rattle.std.proofs.Common.{◌≡◌, ◌≤◌, drop, length}
use Rattle.mc_semantics.specs.Resolved.Configs.{without}
use Rattle.mc_run_values.proofs.tasks.values.undefine.Given as goal

abbrev pub invariant-loop-index : goal.invariant-loop-index
invariant-loop-index l = record {
  within : l.index ≤ length l.variables;
  behind : l.values ≡ without (drop l.index l.variables) l.initial.values;
}

abbrev pub decreases-loop-index : goal.decreases-loop-index
decreases-loop-index l = l.index
