use Rattle.std.proofs.Common.{◌≡◌, ◌++◌, map, drop}
use Rattle.mc_c_check.specs.Collected.{names_held}
use Rattle.mc_c_check.proofs.structs.add_names.Given as goal

abbrev pub invariant-loop-declarator : goal.invariant-loop-declarator
invariant-loop-declarator l = names_held l.names ++ map (λ d. d.name) (drop l.declarator-index l.declarators) ≡ names_held l.initial.names ++ map (λ d. d.name) l.declarators
