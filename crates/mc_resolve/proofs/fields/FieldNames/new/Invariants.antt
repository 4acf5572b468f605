use Rattle.std.proofs.Common.{◌≡◌, map, take}
use Rattle.mc_c_syntax.specs.Ast.Views.{struct_of}
use Rattle.mc_resolve.specs.Named.{declared_names}
use Rattle.mc_resolve.proofs.fields.FieldNames.new.Given as goal

abbrev pub invariant-loop-tree : goal.invariant-loop-tree
invariant-loop-tree l = l.structs.items ≡ map declared_names (map (λ s. struct_of s.now) (take l.tree-index l.tables.structs))
