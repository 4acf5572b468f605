-- Names that fit a rule are nodes that are there.
use Rattle.std.proofs.Common.{inl, ℕ, zero, suc, List, [], ◌∷◌, map, drop, refl}
use Rattle.std.specs.Prelude.{take}
use Rattle.mc_base.specs.declared.ids.NodeId.{NodeId}
use Rattle.mc_base.specs.declared.plain.Kind.TheVariants.{Ptr}
use Rattle.mc_flow.specs.Defs.Instances.{node_of}
use Rattle.mc_pure.specs.Pure.{Kinds, IsNode}
use Rattle.mc_state.specs.Fits.{AreNodes}

pub name_there : (kinds : Kinds) (ns : List NodeId) (name : ℕ) → AreNodes kinds ns → IsNode kinds (node_of ns name)
name_there kinds [] name a = (Ptr, inl refl)
name_there kinds (n ∷ ns) zero a = a.0
name_there kinds (n ∷ ns) (suc name) a = name_there kinds ns name a.1

pub names_there : (kinds : Kinds) (ns : List NodeId) (names : List ℕ) → AreNodes kinds ns → AreNodes kinds (map (node_of ns) names)
names_there kinds ns [] a = tt
names_there kinds ns (name ∷ names) a = (name_there kinds ns name a, names_there kinds ns names a)

taken : (kinds : Kinds) (count : ℕ) (ns : List NodeId) → AreNodes kinds ns → AreNodes kinds (take count ns)
taken kinds zero ns a = tt
taken kinds (suc count) [] a = tt
taken kinds (suc count) (n ∷ ns) a = (a.0, taken kinds count ns a.1)

pub params_there : (kinds : Kinds) (ns : List NodeId) (count : ℕ) → AreNodes kinds ns → AreNodes kinds (take count (drop 1 ns))
params_there kinds [] count a = taken kinds count [] a
params_there kinds (n ∷ ns) count a = taken kinds count ns a.1
