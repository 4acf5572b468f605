use Rattle.std.proofs.Common.{◌≡◌, ◌++◌, map, drop}
use Rattle.mc_c_check.specs.Collected.{names_held}
use Rattle.mc_c_check.proofs.functions.parameter_names.Given as goal

abbrev pub invariant-loop-parameter : goal.invariant-loop-parameter
invariant-loop-parameter l = names_held l.names ++ map (λ p. p.declarator.name) (drop l.parameter-index l.parameters) ≡ map (λ p. p.declarator.name) l.parameters
