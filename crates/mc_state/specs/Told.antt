-- What tests tell, and what ids name.
use Rattle.std.specs.Prelude.{◌≡◌, ◌↔◌, ℕ, List, true}
use Rattle.mc_base.specs.declared.ids.EdgeId.{EdgeId}
use Rattle.mc_base.specs.declared.ids.NodeId.{NodeId}
use Rattle.mc_base.specs.declared.ids.PredId.{PredId}
use Rattle.mc_base.specs.declared.plain.Kind.{Kind}
use Rattle.mc_flow.specs.declared.defs.rules.Def.{Def}
use Rattle.mc_state.specs.declared.graph.edge.Edge.{Edge}
use Rattle.mc_state.specs.Graph.Graph.{Edges, Picks, IdsAscend}
use Rattle.mc_pure.specs.Pure.{Kinds, HasKind}
use Rattle.mc_state.specs.State.{State}
use Rattle.mc_state.specs.Facts.{IsFalse, AreEqual, AreAllEqual}
use Rattle.mc_state.specs.Known.{Test, Tells, is_false, equal, all_equal, has_kind}
use Rattle.mc_state.specs.Named.{others, are_distinct, Looked}
use Rattle.mc_state.specs.Back.{IsBackPosition, is_back}

-- edges picked by ids are those that distinct ids name, and all others are left
abbrev pub PicksAreNamed : Type 0
PicksAreNamed =
    (es : Edges) (high : ℕ) (ids : List EdgeId) (picked : List Edge) (left : Edges)
    → IdsAscend 0 es high → Picks ids es picked left ↔ ((are_distinct ids ≡ true) × Looked es ids picked × (left ≡ others es ids))

-- a test that tells what is entailed tells whether the state is false
abbrev pub FalseIsTold : Type 0
FalseIsTold = (know : Test) (s : State) → Tells know s → (is_false know ≡ true) ↔ IsFalse s

-- and whether nodes are equal
abbrev pub EqualIsTold : Type 0
EqualIsTold = (know : Test) (s : State) (a b : NodeId) → Tells know s → (equal know a b ≡ true) ↔ AreEqual s a b

-- and whether the nodes of two lists are
abbrev pub AllEqualIsTold : Type 0
AllEqualIsTold = (know : Test) (s : State) (xs ys : List NodeId) → Tells know s → (all_equal know xs ys ≡ true) ↔ AreAllEqual s xs ys

-- the kind of a node is a test
abbrev pub KindIsTold : Type 0
KindIsTold = (kinds : Kinds) (kind : Kind) (n : NodeId) → (has_kind kinds kind n ≡ true) ↔ HasKind kinds kind n

-- whether a position is a back position is a test
abbrev pub BackIsTold : Type 0
BackIsTold = (defs : List Def) (pred : PredId) (i : ℕ) → (is_back defs pred i ≡ true) ↔ IsBackPosition defs pred i
