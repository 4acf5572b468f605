use Rattle.std.proofs.Common.{◌≡◌, ◌++◌, map}
use Rattle.mc_lower.specs.declared.variables.Variable.{Variable}
use Rattle.mc_lower.proofs.finishing.infos.Given as goal

abbrev pub invariant-loop-variable : goal.invariant-loop-variable
invariant-loop-variable l =
    (l.infos.items ≡ map (λ (v : Variable). v.info) l.yielded) × (l.yielded ++ l.variable-iterator.rest.items ≡ l.fn.variables.items)
