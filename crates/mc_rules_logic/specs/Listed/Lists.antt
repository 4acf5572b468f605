-- What is written where a node is forgotten is there for every state.
use Rattle.std.specs.Prelude.{List}
use Rattle.mc_base.specs.declared.ids.NodeId.{NodeId}
use Rattle.mc_base.specs.declared.plain.Atom.{Atom}
use Rattle.mc_rules_logic.specs.Fold.Changed.{IsListWithout}
use Rattle.mc_pure.specs.Known.{IsFit}
use Rattle.mc_pure.specs.Nodes.{RiseFrom}
use Rattle.mc_state.specs.State.{State, pure_of}

-- for each node of a state whose kinds ascend and whose atoms fit, there is the list that is written where it is forgotten
abbrev pub ListsAreThere : Type 0
ListsAreThere =
    (s : State) (node : NodeId) → RiseFrom 1 s.kinds → IsFit (pure_of s) → (atoms : List Atom) × IsListWithout node s atoms
