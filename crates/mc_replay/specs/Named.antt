-- Nodes that are named in a state.
use Rattle.std.specs.Prelude.{◌≡◌, ◌&&◌, ℤ, Bool, true, is_some, List, [], ◌∷◌, Option, option_and_then, slice_get}
use Rattle.mc_base.specs.declared.ids.NodeId.{NodeId}
use Rattle.mc_base.specs.declared.plain.Kind.{Kind}
use Rattle.mc_base.specs.declared.plain.VarInfo.{VarInfo}
use Rattle.mc_flow.specs.declared.defs.rules.Def.{Def}
use Rattle.mc_flow.specs.declared.defs.shapes.StructInfo.{StructInfo}
use Rattle.mc_pure.specs.Pure.{Kinds}
use Rattle.mc_state.specs.declared.terms.Term.{Term}
use Rattle.mc_state.specs.Facts.{IsFalse}
use Rattle.mc_state.specs.Fits.{IsWellMade}
use Rattle.mc_state.specs.Known.{Test, Tells, has_kind}
use Rattle.mc_state.specs.Lists.{all_both, on_some}
use Rattle.mc_state.specs.State.{State}
use Rattle.mc_state.specs.Terms.{plain}
use Rattle.mc_rules_logic.specs.Fold.Changed.{NamesSpare}
use Rattle.mc_apply_fold.specs.Forget.Left.{IsMade}
use Rattle.mc_cover.specs.Terms.{equal_terms, all_lie_in}
use Rattle.mc_joins.specs.Laws.{KnowsMade}
use Rattle.mc_base.specs.declared.ids.PredId.{PredId}
use Rattle.mc_joins.specs.Parts.{Basis, Named, nodes_of_args}

-- a state in which nodes may be named: well made, and not false
pub record IsGood (s : State) : Type 0 where
  pub made : IsMade s
  pub consistent : IsFalse s → ⊥

-- the tests tell what is entailed in states that are well made for some variables and structs, of which this state is one
pub record TellsFrom (w : Basis) (s : State) : Type 0 where
  pub vars : List VarInfo
  pub structs : List StructInfo
  pub knows : KnowsMade w.defs vars structs w.know
  pub made : IsWellMade w.defs vars structs s

-- where a node is named in a good state, it stays good
abbrev pub NamingKeepsGood : Type 0
NamingKeepsGood =
    (node : NodeId) (add : ℤ) (kind : Kind) (s after : State) → IsGood s → NamesSpare node add kind s (after ∷ []) → IsGood after

-- and the tests tell what is entailed in it
abbrev pub NamingKeepsTests : Type 0
NamingKeepsTests =
    (node : NodeId) (add : ℤ) (kind : Kind) (w : Basis) (s after : State)
    → TellsFrom w s → NamesSpare node add kind s (after ∷ []) → TellsFrom w after

-- a good state has a test that tells what is entailed in it
abbrev pub GoodIsTold : Type 0
GoodIsTold = (s : State) → IsGood s → (know : Test) × Tells know s

-- the node is of a kind, and equal to a term
abbrev pub is_own : Test → Kinds → Kind → Term → NodeId → Bool
is_own know kinds kind t n = has_kind kinds kind n && equal_terms know t (plain n)

-- there is one term for each kind, and it is of a node of that kind
abbrev pub of_kinds : Kinds → List Kind → List Term → Bool
of_kinds kinds = all_both (λ kind t. has_kind kinds kind t.node)

-- a predicate is defined, and a test holds of the kinds of its parameters
abbrev pub on_params : (List Kind → Bool) → List Def → PredId → Bool
on_params test defs pred = on_some (λ def. test def.params) (slice_get defs pred.0)

-- a state with nodes of it
abbrev pub with_named : State → List NodeId → Named
with_named s ns = record { state = s; nodes = ns }

-- the nodes of a predicate's end arguments after those of its arguments
abbrev pub nodes_of_both : Basis → PredId → State → List Term → List Term → Option Named
nodes_of_both w pred s args ends = option_and_then (λ first. nodes_of_args w pred first.state ends) (nodes_of_args w pred s args)

-- where the arguments of a predicate are of nodes of its parameters' kinds, nodes can be named for them exactly where each
-- lies in the range of its kind, in the state as it is
abbrev pub NamableInRange : Type 0
NamableInRange =
    (w : Basis) (s : State) → TellsFrom w s → IsGood s → (pred : PredId) (args : List Term)
    → on_params (λ kinds. of_kinds s.kinds kinds args) w.defs pred ≡ true
    → is_some (nodes_of_args w pred s args) ≡ on_params (λ kinds. all_lie_in (w.know s) kinds args) w.defs pred

-- and so for its arguments and end arguments
abbrev pub BothNamableInRange : Type 0
BothNamableInRange =
    (w : Basis) (s : State) → TellsFrom w s → IsGood s → (pred : PredId) (args ends : List Term)
    → on_params (λ kinds. of_kinds s.kinds kinds args) w.defs pred ≡ true
    → on_params (λ kinds. of_kinds s.kinds kinds ends) w.defs pred ≡ true
    → is_some (nodes_of_both w pred s args ends)
    ≡ (on_params (λ kinds. all_lie_in (w.know s) kinds args) w.defs pred
    && on_params (λ kinds. all_lie_in (w.know s) kinds ends) w.defs pred)
