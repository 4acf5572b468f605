use Rattle.std.proofs.Common.{◌≡◌, ◌++◌, map, drop}
use Rattle.mc_c_check.specs.Collected.{names_held, structs_held}
use Rattle.mc_c_check.proofs.prototypes.struct_names.Given as goal

abbrev pub invariant-loop-tree : goal.invariant-loop-tree
invariant-loop-tree l = names_held l.names ++ map (λ s. s.name) (structs_held (drop l.tree-index l.structs)) ≡ map (λ s. s.name) (structs_held l.structs)
