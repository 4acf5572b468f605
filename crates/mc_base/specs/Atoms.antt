-- Facts about nodes.
use Rattle.std.specs.Prelude.{◌≡◌, ◌≢◌, ℕ, List, [], ◌∷◌, ◌+ℤ◌, ◌≤ℤ◌}
use Rattle.mc_base.specs.declared.ids.NodeId.{NodeId}
use Rattle.mc_base.specs.declared.plain.Atom.{Atom}
use Rattle.mc_base.specs.declared.plain.Atom.TheVariants.{Eq, Ne, In}
use Rattle.mc_base.specs.Nodes.{Valuation, moved}

-- the atom is true as a statement on whole numbers
abbrev pub IsTrueAtom : Valuation → Atom → Type 0
IsTrueAtom v (Eq a b c) = v a.0 ≡ v b.0 +ℤ c
IsTrueAtom v (Ne a b c) = v a.0 ≢ v b.0 +ℤ c
IsTrueAtom v (In a lo hi) = (lo ≤ℤ v a.0) × (v a.0 ≤ℤ hi)

-- the nodes that an atom names
abbrev pub nodes_of_atom : Atom → List NodeId
nodes_of_atom (Eq a b c) = a ∷ b ∷ []
nodes_of_atom (Ne a b c) = a ∷ b ∷ []
nodes_of_atom (In a lo hi) = a ∷ []

-- the atom with other nodes in place of its own
abbrev pub moved_atom : (ℕ → ℕ) → Atom → Atom
moved_atom f (Eq a b c) = Eq (moved f a) (moved f b) c
moved_atom f (Ne a b c) = Ne (moved f a) (moved f b) c
moved_atom f (In a lo hi) = In (moved f a) lo hi
