-- Edges in place of others.
use Rattle.std.proofs.Common.{◌≡◌, ℤ, Option, List, [], ◌∷◌, map, refl}
use Rattle.mc_base.specs.declared.ids.EdgeId.{EdgeId}
use Rattle.mc_base.specs.declared.ids.NodeId.{NodeId}
use Rattle.mc_base.specs.Nodes.{Valuation, at_node}
use Rattle.mc_flow.specs.Heap.Heap.{Region, IsAtAddresses}
use Rattle.mc_flow.specs.Heap.Parts.{Star}
use Rattle.mc_flow.specs.declared.defs.rules.Def.{Def}
use Rattle.mc_flow.specs.Defs.Laws.{SatFolds, SegOfBody, SegThenSat, SegThenSeg}
use Rattle.mc_state.specs.declared.graph.edge.Edge.{Edge}
use Rattle.mc_state.specs.Graph.Edges.{nodes_of}
use Rattle.mc_state.specs.Graph.Graph.{Edges, Picks}
use Rattle.mc_state.specs.Facts.{AreEqual}
use Rattle.mc_state.specs.Fits.{AreNodes, IsBounded}
use Rattle.mc_state.specs.Laws.{DerivedIsTrue, EqualNodesAreOne, EdgesAreTaken, EdgesArePut, EdgesStayBounded, FewerEdgesStayBounded, PickedNodesAreThere}
use Rattle.mc_state.specs.Stands.{EdgeMeets, StandsBy}
use Rattle.mc_state.specs.State.{State, with_only_edges}
use Rattle.mc_rules_logic.specs.Fold.Folded.{folded}
use Rattle.mc_rules_logic.specs.Fold.Laws.{IsLawful}
use Rattle.mc_rules_logic.proofs.FoldLemmas.Parts.{PartLaws, star_one}

-- what the rules that fold rest on
pub record FoldLaws : Type 0 where
  pub parts : PartLaws
  pub folds : SatFolds
  pub of_body : SegOfBody
  pub then_sat : SegThenSat
  pub then_seg : SegThenSeg
  pub truth : DerivedIsTrue
  pub equal : EqualNodesAreOne
  pub taken : EdgesAreTaken
  pub put : EdgesArePut
  pub edges_bounded : EdgesStayBounded
  pub fewer_bounded : FewerEdgesStayBounded
  pub picked_there : PickedNodesAreThere

-- nodes that are equal have one value
pub one_value : EqualNodesAreOne → (defs : List Def) (v : Valuation) (values : List (Option ℤ)) (region : Region) (s : State) (a b : NodeId) → IsAtAddresses region → StandsBy defs v values region s → AreEqual s a b → v a.0 ≡ v b.0
one_value equal defs v values region s a b addresses st e =
    let both : map (at_node v) (a ∷ []) ≡ map (at_node v) (b ∷ []) = equal defs v values region s (a ∷ []) (b ∷ []) addresses st (e, tt) in
    cc both

module _ (laws : FoldLaws) where
  -- one edge for those that are named, on their part
  pub folded_lawful : (defs : List Def) (s : State) (ids : List EdgeId) (picked : List Edge) (left : Edges) (new : Edge)
      → IsBounded s → Picks ids s.graph.edges picked left → AreNodes s.kinds (nodes_of new)
      → ((v : Valuation) (values : List (Option ℤ)) (region part : Region) → IsAtAddresses region → StandsBy defs v values region s → Star (EdgeMeets defs v) picked part → EdgeMeets defs v new part)
      → IsLawful defs s (folded s left new ∷ [])
  folded_lawful defs s ids picked left new bounded picks there makes = (
    λ v values region addresses st.
        let taken = laws.taken defs v values region s ids picked left picks st in
        let made = makes v values region taken.0 addresses st taken.3 in (
          0,
          folded s left new,
          v,
          refl,
          λ m below. refl,
          laws.put defs v values region taken.0 taken.1 (with_only_edges s left) (new ∷ []) taken.2 (star_one laws.parts (EdgeMeets defs v) new taken.0 made) taken.4,
        ),
    (laws.edges_bounded (with_only_edges s left) (new ∷ []) (laws.fewer_bounded s ids picked left picks bounded) (there, tt), tt),
  )
