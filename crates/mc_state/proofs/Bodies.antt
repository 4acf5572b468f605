-- A block and calls are the edges of a body.
use Rattle.std.proofs.Common.{◌≡◌, ℕ, zero, suc, ℤ, pos, Option, Some, None, List, [], ◌∷◌, map, get_or, refl, sym, ◌∙◌, ap, ap₂}
use Rattle.std.proofs.Math.ListN.{get_or-map}
use Rattle.mc_base.specs.declared.ids.NodeId.{NodeId}
use Rattle.mc_base.specs.declared.ids.PredId.{PredId}
use Rattle.mc_base.specs.declared.ids.StructId.{StructId}
use Rattle.mc_base.specs.Nodes.{Valuation, at_node, null}
use Rattle.mc_flow.specs.Heap.Heap.{Region}
use Rattle.mc_flow.specs.Heap.Parts.{Star, StarAt}
use Rattle.mc_flow.specs.declared.defs.rules.Call.{Call}
use Rattle.mc_flow.specs.declared.defs.rules.Def.{Def}
use Rattle.mc_flow.specs.Defs.Instances.{node_of}
use Rattle.mc_flow.specs.Defs.Meaning.{BlockMeets, CallMeets, SegCallMeets, Sat, Seg}
use Rattle.mc_flow.specs.Defs.Values.{value_of}
use Rattle.mc_state.specs.declared.graph.edge.Edge.TheVariants.{Block}
use Rattle.mc_state.specs.Bodies.{call_edge, block_edges, body_edges, calls_to}
use Rattle.mc_state.specs.BodyLaws.{IsBody, BodiesAreEdges, SegBodiesAreEdges}
use Rattle.mc_state.specs.Stands.{VarsMeet, EdgeMeets}
use Rattle.mc_state.proofs.Parts.{SplitLaws, star_append}
use Rattle.mc_state.proofs.Stars.{star_one, star_parts}

module _ (laws : SplitLaws) (defs : List Def) (v : Valuation) (nodes : List NodeId) (zero_is : v 0 ≡ pos 0) where
  abbrev names : List ℤ
  names = map (at_node v) nodes

  -- the value of a name is that of its node
  name_value : (name : ℕ) → value_of names name ≡ v (node_of nodes name).0
  name_value name = ap (λ d. get_or names name d) (sym zero_is) ∙ get_or-map (at_node v) nodes name null

  name_values : (xs : List ℕ) → map (value_of names) xs ≡ map (at_node v) (map (node_of nodes) xs)
  name_values [] = refl
  name_values (x ∷ xs) = ap₂ (λ y ys. y ∷ ys) (name_value x) (name_values xs)

  call_meets : (call : Call) (part : Region) → CallMeets (Sat defs) names call part → EdgeMeets defs v (call_edge nodes call) part
  call_meets call part m = rw (sym (name_value call.at), sym (name_values call.args)) m

  meets_call : (call : Call) (part : Region) → EdgeMeets defs v (call_edge nodes call) part → CallMeets (Sat defs) names call part
  meets_call call part m = rw (name_value call.at, name_values call.args) m

  calls_meet : (calls : List Call) (region : Region) → Star (CallMeets (Sat defs) names) calls region → Star (EdgeMeets defs v) (map (call_edge nodes) calls) region
  calls_meet [] region s = s
  calls_meet (call ∷ calls) region s = (s.0, s.1, s.2, call_meets call s.0 s.3, calls_meet calls s.1 s.4)

  meet_calls : (calls : List Call) (region : Region) → Star (EdgeMeets defs v) (map (call_edge nodes) calls) region → Star (CallMeets (Sat defs) names) calls region
  meet_calls [] region s = s
  meet_calls (call ∷ calls) region s = (s.0, s.1, s.2, meets_call call s.0 s.3, meet_calls calls s.1 s.4)

  -- the fields of a block are the values of its contents
  fields_meet : (xs : List ℕ) → VarsMeet v (map (λ name. Some (node_of nodes name)) xs) (map (λ name. Some (value_of names name)) xs)
  fields_meet [] = tt
  fields_meet (x ∷ xs) = (ap Some (name_value x), fields_meet xs)

  meet_fields : (xs : List ℕ) (zs : List (Option ℤ)) → VarsMeet v (map (λ name. Some (node_of nodes name)) xs) zs → zs ≡ map (λ name. Some (value_of names name)) xs
  meet_fields [] [] m = refl
  meet_fields [] (z ∷ zs) m = absurd m
  meet_fields (x ∷ xs) [] m = absurd m
  meet_fields (x ∷ xs) (z ∷ zs) m = ap₂ (λ y ys. y ∷ ys) (m.0 ∙ ap Some (sym (name_value x))) (meet_fields xs zs m.1)

  block_meets : (block : Option StructId) (contents : List ℕ) (region : Region) → BlockMeets block contents names region → Star (EdgeMeets defs v) (block_edges nodes block contents) region
  block_meets None contents region m = m
  block_meets (Some shape) contents region m =
      star_one laws (EdgeMeets defs v) (Block (node_of nodes 0) shape (map (λ name. Some (node_of nodes name)) contents)) region (m.0, sym (name_value 0) ∙ m.1, (map (λ name. Some (value_of names name)) contents, m.2, fields_meet contents))

  meet_block : (block : Option StructId) (contents : List ℕ) (region : Region) → Star (EdgeMeets defs v) (block_edges nodes block contents) region → BlockMeets block contents names region
  meet_block None contents region s = s
  meet_block (Some shape) contents region s =
      let here : region ≡ s.0 = laws.drops_empty region s.1 s.0 s.4 (laws.commutes region s.0 s.1 s.2) in
      rw here (s.3.0, name_value 0 ∙ s.3.1, rw (← (meet_fields contents s.3.2.0 s.3.2.2)) s.3.2.1)

  -- the calls, of which one is a segment to an end
  seg_calls_meet : (pred : PredId) («end» : NodeId) (ends : List NodeId) (place : ℕ) (calls : List Call) (region : Region)
      → StarAt (CallMeets (Sat defs) names) (SegCallMeets (λ value args part. Seg defs pred value args (v end.0) (map (at_node v) ends) part) pred names) place calls region
      → Star (EdgeMeets defs v) (calls_to nodes end ends place calls) region
  seg_calls_meet pred «end» ends place [] region s = absurd s
  seg_calls_meet pred «end» ends zero (call ∷ calls) region s =
      (s.0, s.1, s.2, rw (sym (name_value call.at), sym (name_values call.args), s.3.0) s.3.1, calls_meet calls s.1 s.4)
  seg_calls_meet pred «end» ends (suc place) (call ∷ calls) region s =
      (s.0, s.1, s.2, call_meets call s.0 s.3, seg_calls_meet pred end ends place calls s.1 s.4)

  body_parts : (block : Option StructId) (contents : List ℕ) (calls : List Call) (region : Region) → Star (EdgeMeets defs v) (body_edges nodes block contents calls) region → IsBody defs v nodes block contents calls region
  body_parts block contents calls region s =
      let both = star_parts laws (EdgeMeets defs v) (block_edges nodes block contents) (map (call_edge nodes) calls) region s in
      (both.0, both.1, both.2, meet_block block contents both.0 both.3, meet_calls calls both.1 both.4)

pub bodies_edges : SplitLaws → BodiesAreEdges
bodies_edges laws defs v nodes block contents calls region zero_is = (
  λ b.
      star_append laws (EdgeMeets defs v) (block_edges nodes block contents) (map (call_edge nodes) calls) region b.0 b.1 b.2
      (block_meets laws defs v nodes zero_is block contents b.0 b.3) (calls_meet laws defs v nodes zero_is calls b.1 b.4),
  λ s. body_parts laws defs v nodes zero_is block contents calls region s,
)

pub seg_bodies_edges : SplitLaws → SegBodiesAreEdges
seg_bodies_edges laws defs v nodes pred «end» ends place block contents calls region zero_is b =
    star_append laws (EdgeMeets defs v) (block_edges nodes block contents) (calls_to nodes end ends place calls) region b.0 b.1 b.2
    (block_meets laws defs v nodes zero_is block contents b.0 b.3) (seg_calls_meet laws defs v nodes zero_is pred end ends place calls b.1 b.4)
