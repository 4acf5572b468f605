-- A list without its first such node.
use Rattle.std.specs.Prelude.{List, [], ◌∷◌, cond, nat_eq}
use Rattle.mc_base.specs.declared.ids.NodeId.{NodeId}

abbrev pub without_first : List NodeId → NodeId → List NodeId
without_first [] a = []
without_first (x ∷ xs) a = cond (nat_eq x.0 a.0) xs (x ∷ without_first xs a)
