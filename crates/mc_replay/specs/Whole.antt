-- Whole joins, as they are made.
use Rattle.std.specs.Prelude.{◌≡◌, ◌↔◌, ◌+◌, ◌<◌, ◌++◌, List, [], Some, None, length, drop, true}
use Rattle.std.specs.List.{AllByRecursion}
use Rattle.mc_base.specs.declared.plain.Atom.{Atom}
use Rattle.mc_base.specs.declared.plain.Kind.{Kind}
use Rattle.mc_base.specs.declared.plain.VarInfo.{VarInfo}
use Rattle.mc_flow.specs.declared.defs.rules.Def.{Def}
use Rattle.mc_flow.specs.declared.defs.shapes.StructInfo.{StructInfo}
use Rattle.mc_pure.specs.Pure.{Pure, IsWellFormed}
use Rattle.mc_pure.specs.Canonical.{plainly}
use Rattle.mc_pure.specs.Derived.{Follows}
use Rattle.mc_pure.specs.Whole.{IsWholeList}
use Rattle.mc_pure_ops.specs.Join.Joint.{Pairs, AreJoinable, AreJointKinds}
use Rattle.mc_state.specs.declared.line.JoinStep.{JoinStep}
use Rattle.mc_state.specs.Facts.{IsFalse}
use Rattle.mc_state.specs.Fits.{IsBounded, IsWellMade}
use Rattle.mc_state.specs.State.{State, pure_of}
use Rattle.mc_joins.specs.Joinings.{Joining, Pair, begun, next_pair}
use Rattle.mc_joins.specs.Laws.{KnowsMade}
use Rattle.mc_joins.specs.Parts.{Basis}
use Rattle.mc_joins.specs.Steps.{after_steps}
use Rattle.mc_joins.specs.Whole.{kind_of_pair, kinds_from, kinds_of_pairs, result_of}

-- two states that are well made for one program
pub record AreOfOne (defs : List Def) (left right : State) : Type 0 where
  pub vars : List VarInfo
  pub structs : List StructInfo
  pub left_made : IsWellMade defs vars structs left
  pub right_made : IsWellMade defs vars structs right

-- and not false
pub record MayJoin (defs : List Def) (left right : State) : Type 0 where
  pub program : AreOfOne defs left right
  pub left_consistent : IsFalse left → ⊥
  pub right_consistent : IsFalse right → ⊥

-- the tests tell what is entailed in states of a program, of which both states are
pub record TellsOf (w : Basis) (left right : State) : Type 0 where
  pub program : AreOfOne w.defs left right
  pub knows : KnowsMade w.defs program.vars program.structs w.know

-- steps lead to this join from two states that may be joined
pub record IsReached (left right : State) (j : Joining) : Type 0 where
  pub w : Basis
  pub tells : TellsOf w left right
  pub left_consistent : IsFalse left → ⊥
  pub right_consistent : IsFalse right → ⊥
  pub steps : List JoinStep
  pub leads : after_steps w (begun left right) steps ≡ Some j

-- the pair has a kind
abbrev pub HasPairKind : Joining → Pair → Type 0
HasPairKind j p = (kind : Kind) × (kind_of_pair j p ≡ Some kind)

-- what a join gives may be put together: its sides may be joined, each pair but the first has a kind, and all nodes that
-- variables and edges name are there
pub record MayBeMade (left right : State) (j : Joining) : Type 0 where
  pub left_consistent : IsFalse j.left.state → ⊥
  pub right_consistent : IsFalse j.right.state → ⊥
  pub joinable : AreJoinable (pure_of j.left.state) (pure_of j.right.state) j.pairs
  pub joint_kinds : AreJointKinds (pure_of j.left.state) (pure_of j.right.state) j.pairs (kinds_of_pairs j j.pairs)
  pub first : 0 < length j.pairs
  pub others : AllByRecursion (HasPairKind j) (drop 1 j.pairs)
  pub bounded : IsBounded (result_of left right j [])

-- where steps come to the end of a join
abbrev pub ReachedMayBeMade : Type 0
ReachedMayBeMade = (left right : State) (j : Joining) → IsReached left right j → next_pair j ≡ None → MayBeMade left right j

-- the state with a node more for each of these pairs
abbrev pub with_pair_nodes : Joining → State → Pairs → State
with_pair_nodes j s ps = record s { kinds = s.kinds ++ kinds_from j s.next ps; next = s.next + length ps }

-- what a join gives, without atoms, and as if it were whole
abbrev pub bare_result : State → State → Joining → State
bare_result left right j = record (result_of left right j []) { whole = true }

-- these atoms may be written of the nodes, say all that follows, and are the canonical list of it, with the disequalities
-- inside one class
pub record SaysAll (p : Pure) (atoms : List Atom) : Type 0 where
  pub well : AllByRecursion (IsWellFormed p.kinds) atoms
  pub same : (f : Atom) → Follows (plainly p atoms) f ↔ Follows p f
  pub listed : IsWholeList (plainly p atoms) atoms
