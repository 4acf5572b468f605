-- What holds of bodies of rules as edges, and of covers.
use Rattle.std.specs.Prelude.{◌≡◌, ◌↔◌, ℕ, List, ℤ, pos, Option, map}
use Rattle.mc_base.specs.declared.ids.NodeId.{NodeId}
use Rattle.mc_base.specs.declared.ids.PredId.{PredId}
use Rattle.mc_base.specs.declared.ids.StructId.{StructId}
use Rattle.mc_base.specs.Nodes.{Valuation, at_node}
use Rattle.mc_flow.specs.Heap.Heap.{Region, IsAtAddresses}
use Rattle.mc_flow.specs.Heap.Parts.{Split, Star, StarAt}
use Rattle.mc_flow.specs.declared.defs.rules.Call.{Call}
use Rattle.mc_flow.specs.declared.defs.rules.Def.{Def}
use Rattle.mc_flow.specs.Defs.Conditions.{IsDefs}
use Rattle.mc_flow.specs.Defs.Meaning.{BlockMeets, CallMeets, SegCallMeets, Sat, Seg}
use Rattle.mc_state.specs.Graph.Graph.{Edges}
use Rattle.mc_state.specs.declared.terms.Term.{Term}
use Rattle.mc_state.specs.State.{State}
use Rattle.mc_state.specs.Stands.{EdgeMeets, EdgesMeet, StandsBy}
use Rattle.mc_state.specs.Bodies.{body_edges, body_to}
use Rattle.mc_state.specs.Terms.{term_value}
use Rattle.mc_state.specs.Covers.{Cover, SegCover}

-- the region is a block and a part for each call, by the values of the nodes
abbrev pub IsBody : List Def → Valuation → List NodeId → Option StructId → List ℕ → List Call → Region → Type 0
IsBody defs v nodes block contents calls region =
    (held : Region) × (rest : Region) × Split region held rest
    × BlockMeets block contents (map (at_node v) nodes) held × Star (CallMeets (Sat defs) (map (at_node v) nodes)) calls rest

-- the same, where the call at a place is a segment to an end
abbrev pub IsBodyTo : List Def → Valuation → List NodeId → PredId → NodeId → List NodeId → ℕ → Option StructId
    → List ℕ → List Call → Region → Type 0
IsBodyTo defs v nodes pred «end» ends place block contents calls region =
    (held : Region) × (rest : Region) × Split region held rest
    × BlockMeets block contents (map (at_node v) nodes) held
    × StarAt (CallMeets (Sat defs) (map (at_node v) nodes))
    (SegCallMeets (λ value args part. Seg defs pred value args (v end.0) (map (at_node v) ends) part) pred
    (map (at_node v) nodes)) place calls rest

-- a block and calls are the edges of a body
abbrev pub BodiesAreEdges : Type 0
BodiesAreEdges =
    (defs : List Def) (v : Valuation) (nodes : List NodeId) (block : Option StructId) (contents : List ℕ)
    (calls : List Call) (region : Region)
    → v 0 ≡ pos 0 → IsBody defs v nodes block contents calls region ↔ Star (EdgeMeets defs v) (body_edges nodes block contents calls) region

-- and with a segment in place of a call
abbrev pub SegBodiesAreEdges : Type 0
SegBodiesAreEdges =
    (defs : List Def) (v : Valuation) (nodes : List NodeId) (pred : PredId) («end» : NodeId) (ends : List NodeId)
    (place : ℕ) (block : Option StructId) (contents : List ℕ) (calls : List Call) (region : Region)
    → v 0 ≡ pos 0 → IsBodyTo defs v nodes pred end ends place block contents calls region
    → Star (EdgeMeets defs v) (body_to nodes end ends place block contents calls) region

-- the edges of a cover make the predicate, and the others are the rest
abbrev pub CoverMakesPredicate : Type 0
CoverMakesPredicate =
    (defs : List Def) (v : Valuation) (values : List (Option ℤ)) (region whole : Region) (s : State) (pred : PredId)
    (at : Term) (args : List Term) (es left : Edges)
    → IsDefs defs → IsAtAddresses whole → StandsBy defs v values whole s → Cover defs s pred at args es left → EdgesMeet defs v es region
    → (part : Region) × (rest : Region) × Split region part rest
    × Sat defs pred (term_value v at) (map (term_value v) args) part × EdgesMeet defs v left rest

-- and those of a segment cover the segment
abbrev pub SegCoverMakesSegment : Type 0
SegCoverMakesSegment =
    (defs : List Def) (v : Valuation) (values : List (Option ℤ)) (region whole : Region) (s : State) (pred : PredId)
    (at : Term) (args : List Term) («end» : Term) (ends : List Term) (es left : Edges)
    → IsDefs defs → IsAtAddresses whole → StandsBy defs v values whole s
    → SegCover defs s pred at args end ends es left → EdgesMeet defs v es region
    → (part : Region) × (rest : Region) × Split region part rest
    × Seg defs pred (term_value v at) (map (term_value v) args) (term_value v end) (map (term_value v) ends) part
    × EdgesMeet defs v left rest
