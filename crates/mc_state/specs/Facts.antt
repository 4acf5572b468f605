-- What follows in a state.
use Rattle.std.specs.Prelude.{◌≡◌, ◌==◌, ◌↔◌, ℕ, List, [], ◌∷◌, Some, slice_get, Contains, if◌then◌else◌}
use Rattle.mc_base.specs.declared.ids.EdgeId.{EdgeId}
use Rattle.mc_base.specs.declared.ids.NodeId.{NodeId}
use Rattle.mc_base.specs.declared.plain.Atom.{Atom}
use Rattle.mc_base.specs.Nodes.{null}
use Rattle.mc_state.specs.declared.graph.edge.Edge.{Edge}
use Rattle.mc_state.specs.Graph.Edges.{start_of, nodes_of}
use Rattle.mc_pure.specs.Pure.{Kinds, IsNode, AreOfOneKind}
use Rattle.mc_pure.specs.Derived as pure
use Rattle.mc_pure.specs.Whole.{kinds_without}
use Rattle.mc_state.specs.State.{State, pure_of, renamed}

-- the atom is entailed in the state
abbrev pub Derives : State → Atom → Type 0
Derives s f = pure.Derived (pure_of s) f

-- no number can meet what follows in the state
abbrev pub IsFalse : State → Type 0
IsFalse s = pure.IsFalse (pure_of s)

-- the nodes are entailed equal
abbrev pub AreEqual : State → NodeId → NodeId → Type 0
AreEqual s a b = pure.AreEqual (pure_of s) a b

-- the nodes of two lists are, one by one
abbrev pub AreAllEqual : State → List NodeId → List NodeId → Type 0
AreAllEqual s as' bs = pure.AreAllEqual (pure_of s) as' bs

-- two states are the same: the same nodes of variables, kinds, edges with their ids and flag, and the same atoms are entailed
pub record AreSame (s t : State) : Type 0 where
  pub env : s.env ≡ t.env
  pub kinds : s.kinds ≡ t.kinds
  pub edges : s.graph.edges ≡ t.graph.edges
  pub whole : s.whole ≡ t.whole
  pub derived : (f : Atom) → Derives s f ↔ Derives t f

-- the nodes that are reached: node 0, those of variables, those that equal one, and those of an edge that starts at one
pub data IsReached (s : State) : NodeId → Type 0 where
  from_null : IsReached s null
  from_var : {n : NodeId} (place : ℕ) → slice_get s.env place ≡ Some (Some n) → IsReached s n
  along_equal : {a b : NodeId} → IsReached s a → AreEqual s a b → IsReached s b
  along_edge : {n : NodeId} (place : ℕ) (id : EdgeId) (e : Edge) → slice_get s.graph.edges place ≡ Some (id, e)
      → IsReached s (start_of e) → Contains (nodes_of e) n → IsReached s n

-- one node may stand in place of another: they differ, the other is not node 0, and they are of one kind or the one is node 0
pub record CanMerge (kinds : Kinds) (keep gone : NodeId) : Type 0 where
  pub keep_is : IsNode kinds keep
  pub gone_is : IsNode kinds gone
  pub differ : keep ≡ gone → ⊥
  pub not_null : gone ≡ null → ⊥
  pub kind : AreOfOneKind kinds keep gone

-- nothing can be dropped or merged, and the state is not false
pub record IsTidy (s : State) : Type 0 where
  pub consistent : IsFalse s → ⊥
  pub reached : (place : ℕ) (id : EdgeId) (e : Edge) → slice_get s.graph.edges place ≡ Some (id, e) → IsReached s (start_of e)
  pub merged : (keep gone : NodeId) → CanMerge s.kinds keep gone → AreEqual s keep gone → ⊥

-- one number in place of another
abbrev pub instead : ℕ → ℕ → ℕ → ℕ
instead keep gone n = if n == gone then keep else n

-- one node in place of another everywhere
abbrev pub merged : NodeId → NodeId → State → State
merged keep gone s = renamed (instead keep.0 gone.0) (kinds_without s.kinds gone) s.next s

-- the node stands in no variable and in no edge
pub record IsUnnamed (n : NodeId) (s : State) : Type 0 where
  pub vars : (place : ℕ) → slice_get s.env place ≡ Some (Some n) → ⊥
  pub edges : (place : ℕ) (id : EdgeId) (e : Edge) → slice_get s.graph.edges place ≡ Some (id, e) → Contains (nodes_of e) n → ⊥
