-- A state with a node for another node and a number more.
use Rattle.std.specs.Prelude.{[], ◌∷◌, ℤ}
use Rattle.mc_base.specs.declared.ids.NodeId.{NodeId}
use Rattle.mc_base.specs.declared.plain.Atom.TheVariants.{Eq}
use Rattle.mc_base.specs.declared.plain.Kind.{Kind}
use Rattle.mc_state.specs.State.{State, next_node, with_atoms, with_nodes}

-- a new node of a kind is the node and the number more
abbrev pub with_spare : NodeId → ℤ → Kind → State → State
with_spare node add kind s = with_atoms (with_nodes s (kind ∷ [])) (Eq (next_node s) node add ∷ [])
