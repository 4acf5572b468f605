-- What is written when a node is forgotten.
use Rattle.std.specs.Prelude.{◌≡◌, ◌==◌, ◌↔◌, ℕ, suc, ◌<◌, ◌≤◌, ℤ, pos, ◌<ℤ◌, ◌⊎◌, List, [], ◌∷◌, ◌++◌, Option, Some, None, slice_get, if◌then◌else◌}
use Rattle.mc_base.specs.declared.ids.NodeId.{NodeId}
use Rattle.mc_base.specs.declared.plain.Atom.{Atom}
use Rattle.mc_base.specs.declared.plain.Atom.TheVariants.{Eq, Ne, In}
use Rattle.mc_base.specs.Nodes.{null}
use Rattle.mc_pure.specs.Pure.{Pure, Kinds, IsNode}
use Rattle.mc_pure.specs.Derived.{Follows, IsFalse}
use Rattle.mc_pure.specs.Canonical.{IsLeast}
use Rattle.mc_pure.specs.Whole.{kinds_without, IsWholeList}
use Rattle.mc_pure.specs.declared.classes.ClassPlace.{ClassPlace}
use Rattle.mc_pure_ops.specs.Canon.Left.{IsHeir, LeavesOut}

-- the other nodes with these atoms, and no blocks
abbrev pub without_node : Pure → NodeId → List Atom → Pure
without_node p lost atoms = record { kinds = kinds_without p.kinds lost; written = atoms; starts = [] }

-- the atoms derive of the other nodes, without blocks, exactly what was entailed of them, and are listed canonically
pub record IsForgotten (p : Pure) (lost : NodeId) (atoms : List Atom) : Type 0 where
  pub same : (f : Atom) → Follows (without_node p lost atoms) f ↔ (Follows p f × LeavesOut (Some lost) f)
  pub listed : IsWholeList (without_node p lost atoms) atoms

-- of what is false, node 0 differs from itself
abbrev pub IsForgottenOrFalse : Pure → NodeId → List Atom → Type 0
IsForgottenOrFalse p lost atoms =
    (IsFalse p × (atoms ≡ Ne null null (pos 0) ∷ [])) ⊎ ((IsFalse p → ⊥) × IsForgotten p lost atoms)

-- of the first nodes of a list, those of a class whose least node is left out have this heir
abbrev pub IsHeirBelow : Pure → NodeId → List NodeId → ℕ → Option ClassPlace → Type 0
IsHeirBelow p lost nodes n None = (k : ℕ) (m : NodeId) (c : ℤ) → k < n → slice_get nodes k ≡ Some m → Follows p (Eq m lost c) → m ≡ lost
IsHeirBelow p lost nodes n (Some heir) =
    IsNode p.kinds heir.least × (heir.least ≡ lost → ⊥) × Follows p (Eq heir.least lost heir.offset)
    × ((k : ℕ) (m : NodeId) (c : ℤ) → k < n → slice_get nodes k ≡ Some m → (m ≡ lost → ⊥) → Follows p (Eq m lost c) → heir.least.0 ≤ m.0)

-- with one node more
abbrev pub IsNextHeir : Pure → NodeId → NodeId → (old new : Option ClassPlace) → Type 0
IsNextHeir p lost other old new =
    (nodes : List NodeId) (i : ℕ) → IsLeast p lost → slice_get nodes i ≡ Some other → IsHeirBelow p lost nodes i old
    → IsHeirBelow p lost nodes (suc i) new
