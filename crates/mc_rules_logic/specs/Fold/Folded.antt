-- The rules that fold edges into one.
use Rattle.std.specs.Prelude.{◌≡◌, ℕ, List, [], ◌∷◌, ◌++◌, Option, Some, None, length, map, option_to_list, remove, slice_get}
use Rattle.std.specs.List.{AllByRecursion}
use Rattle.mc_base.specs.declared.ids.EdgeId.{EdgeId}
use Rattle.mc_base.specs.declared.ids.NodeId.{NodeId}
use Rattle.mc_base.specs.declared.ids.PredId.{PredId}
use Rattle.mc_base.specs.declared.ids.StructId.{StructId}
use Rattle.mc_base.specs.declared.plain.Kind.TheVariants.{Ptr}
use Rattle.mc_flow.specs.declared.defs.rules.Call.{Call}
use Rattle.mc_flow.specs.declared.defs.rules.Def.{Def}
use Rattle.mc_flow.specs.declared.defs.rules.Rule.{Rule}
use Rattle.mc_flow.specs.Defs.Instances.{node_of, atom_of}
use Rattle.mc_state.specs.declared.graph.edge.Edge.{Edge}
use Rattle.mc_state.specs.declared.graph.edge.Edge.TheVariants.{Block, Ind, Seg}
use Rattle.mc_state.specs.Graph.Graph.{Edges, Picks}
use Rattle.mc_pure.specs.Pure.{HasKind}
use Rattle.mc_state.specs.declared.line.FoldInd.{FoldInd}
use Rattle.mc_state.specs.declared.line.FoldSeg.{FoldSeg}
use Rattle.mc_state.specs.State.{State, with_only_edges, with_edges}
use Rattle.mc_state.specs.Facts.{IsFalse, Derives, AreEqual, AreAllEqual}
use Rattle.mc_state.specs.Fits.{HaveKinds, ArgsFit}

-- the state with one edge in place of those that are gone
abbrev pub folded : State → Edges → Edge → State
folded s left new = with_edges (with_only_edges s left) (new ∷ [])

-- every field is known and equal to its name
abbrev pub FieldsMatch : State → List NodeId → List ℕ → List (Option NodeId) → Type 0
FieldsMatch s names [] [] = Unit {0}
FieldsMatch s names (name ∷ contents) (Some n ∷ fields) = AreEqual s (node_of names name) n × FieldsMatch s names contents fields
FieldsMatch s names (name ∷ contents) (None ∷ fields) = ⊥
FieldsMatch s names [] (n ∷ fields) = ⊥
FieldsMatch s names (name ∷ contents) [] = ⊥

-- the edge is a Block of the struct, at a node equal to `this`, and its fields match
abbrev pub BlockMatches : State → List NodeId → StructId → List ℕ → Edge → Type 0
BlockMatches s names shape contents (Block at own fields) = (own ≡ shape) × AreEqual s (node_of names 0) at
    × FieldsMatch s names contents fields
BlockMatches s names shape contents (Ind at pred args) = ⊥
BlockMatches s names shape contents (Seg at args pred «end» ends) = ⊥

-- a block is named where the rule has one, and it matches
abbrev pub BlocksMatch : State → List NodeId → Option StructId → List ℕ → List Edge → Type 0
BlocksMatch s names None contents [] = Unit {0}
BlocksMatch s names None contents (e ∷ es) = ⊥
BlocksMatch s names (Some shape) contents [] = ⊥
BlocksMatch s names (Some shape) contents (e ∷ []) = BlockMatches s names shape contents e
BlocksMatch s names (Some shape) contents (e ∷ f ∷ es) = ⊥

-- the edge is an Ind of the call's predicate with equal start and arguments
abbrev pub CallMatches : State → List NodeId → Call → Edge → Type 0
CallMatches s names call (Ind at pred args) = (pred ≡ call.pred) × AreEqual s (node_of names call.at) at
    × AreAllEqual s (map (node_of names) call.args) args
CallMatches s names call (Block at shape fields) = ⊥
CallMatches s names call (Seg at args pred «end» ends) = ⊥

-- one edge for each call, and each matches
abbrev pub CallsMatch : State → List NodeId → List Call → List Edge → Type 0
CallsMatch s names [] [] = Unit {0}
CallsMatch s names (call ∷ calls) (e ∷ es) = CallMatches s names call e × CallsMatch s names calls es
CallsMatch s names [] (e ∷ es) = ⊥
CallsMatch s names (call ∷ calls) [] = ⊥

-- the entries of L3, one by one
abbrev pub ind_fold : PredId → ℕ → List NodeId → Option EdgeId → List EdgeId → FoldInd
ind_fold pred rule names block edges = record { pred = pred; rule = rule; names = names; block = block; edges = edges }

-- the entries of L4, one by one
abbrev pub seg_fold : PredId → ℕ → List NodeId → EdgeId → List EdgeId → ℕ → FoldSeg
seg_fold pred rule names block edges call =
    record { pred = pred; rule = rule; names = names; block = block; edges = edges; call = call }

-- the entries of L4 but the call's number, as those of L3
abbrev pub as_ind : FoldSeg → FoldInd
as_ind fold = ind_fold fold.pred fold.rule fold.names (Some fold.block) fold.edges

-- the premises that folding a rule into an Ind and into a Seg share; of the calls those are asked for that are listed
pub record Matches (defs : List Def) (s : State) (fold : FoldInd) (calls : Rule → List Call) : Type 0 where
  -- 3: the named edges exist and are distinct
  pub blocks : List Edge
  pub inds : List Edge
  pub left : Edges
  pub picks : Picks (option_to_list fold.block ++ fold.edges) s.graph.edges (blocks ++ inds) left
  pub one_each : length inds ≡ length fold.edges
  -- 4: names and edges fit a rule of the predicate in number and kind
  pub def : Def
  pub defined : slice_get defs fold.pred.0 ≡ Some def
  pub by : Rule
  pub listed : slice_get def.rules fold.rule ≡ Some by
  pub kinds : HaveKinds s.kinds by.names fold.names
  pub this : NodeId
  pub args : List NodeId
  pub others : List NodeId
  pub front : fold.names ≡ this ∷ (args ++ others)
  pub count : length args ≡ length def.params
  -- 5: the block edge is the rule's block
  pub block_fits : BlocksMatch s fold.names by.block by.contents blocks
  -- 6: each other edge is a call
  pub calls_fit : CallsMatch s fold.names (calls by) inds
  -- 7: each atom of the rule is entailed
  pub atoms : AllByRecursion (λ a. Derives s (atom_of fold.names a)) by.atoms

-- L3: a rule's block and calls become an Ind
pub record FoldsInd (defs : List Def) (fold : FoldInd) (s : State) (next : List State) : Type 0 where
  pub consistent : IsFalse s → ⊥
  pub body : Matches defs s fold (λ r. r.calls)
  pub gives : next ≡ folded s body.left (Ind body.this fold.pred body.args) ∷ []

-- L4: a rule's block and calls without one of the predicate become a Seg to that call
pub record FoldsSeg (defs : List Def) (fold : FoldSeg) (s : State) (next : List State) : Type 0 where
  pub consistent : IsFalse s → ⊥
  pub body : Matches defs s (as_ind fold) (λ r. remove r.calls fold.call)
  pub open_call : Call
  pub called : slice_get body.by.calls fold.call ≡ Some open_call
  pub own : open_call.pred ≡ fold.pred
  pub gives : next ≡ folded s body.left
      (Seg body.this body.args fold.pred (node_of fold.names open_call.at) (map (node_of fold.names) open_call.args)) ∷ []

-- L5: a Seg and an Ind of its predicate at its end, with equal arguments there, become an Ind
pub record ClosesSeg (first second : EdgeId) (s : State) (next : List State) : Type 0 where
  pub consistent : IsFalse s → ⊥
  pub at : NodeId
  pub args : List NodeId
  pub pred : PredId
  pub stop : NodeId
  pub ends : List NodeId
  pub from : NodeId
  pub from_args : List NodeId
  pub left : Edges
  pub picks : Picks (first ∷ second ∷ []) s.graph.edges (Seg at args pred stop ends ∷ Ind from pred from_args ∷ []) left
  pub meet : AreEqual s stop from
  pub args_meet : AreAllEqual s ends from_args
  pub gives : next ≡ folded s left (Ind at pred args) ∷ []

-- L6: a Seg and another of its predicate at its end, with equal arguments there, become one
pub record JoinsSegs (first second : EdgeId) (s : State) (next : List State) : Type 0 where
  pub consistent : IsFalse s → ⊥
  pub at : NodeId
  pub args : List NodeId
  pub pred : PredId
  pub stop : NodeId
  pub ends : List NodeId
  pub from : NodeId
  pub from_args : List NodeId
  pub last : NodeId
  pub last_args : List NodeId
  pub left : Edges
  pub picks : Picks (first ∷ second ∷ []) s.graph.edges (Seg at args pred stop ends ∷ Seg from from_args pred last last_args ∷ []) left
  pub meet : AreEqual s stop from
  pub args_meet : AreAllEqual s ends from_args
  pub gives : next ≡ folded s left (Seg at args pred last last_args) ∷ []

-- L7: a Seg from a node to an equal one, with equal arguments, takes no memory
pub record MakesEmptySeg (defs : List Def) (pred : PredId) (at : NodeId) (args : List NodeId) (stop : NodeId)
    (ends : List NodeId) (s : State) (next : List State) : Type 0 where
  pub consistent : IsFalse s → ⊥
  pub at_is : HasKind s.kinds Ptr at
  pub args_are : ArgsFit defs s.kinds pred args
  pub stop_is : HasKind s.kinds Ptr stop
  pub ends_are : ArgsFit defs s.kinds pred ends
  pub meet : AreEqual s at stop
  pub args_meet : AreAllEqual s args ends
  pub gives : next ≡ with_edges s (Seg at args pred stop ends ∷ []) ∷ []
