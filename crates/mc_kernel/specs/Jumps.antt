-- Jumps to the states of cuts.
use Rattle.std.specs.Prelude.{◌≡◌, ℕ, suc, List, [], ◌∷◌, pos, true, Option, Some, None, get_or, length, map}
use Rattle.std.specs.List.{AllByRecursion}
use Rattle.mc_base.specs.declared.ids.EdgeId.{EdgeId}
use Rattle.mc_base.specs.declared.ids.NodeId.{NodeId}
use Rattle.mc_base.specs.Atoms.{moved_atom}
use Rattle.mc_base.specs.Nodes.{null, moved}
use Rattle.mc_state.specs.declared.graph.edge.Edge.{Edge}
use Rattle.mc_state.specs.declared.graph.edge.Edge.TheVariants.{Block, Ind, Seg}
use Rattle.mc_state.specs.Graph.Graph.{Edges, Picks}
use Rattle.mc_pure.specs.Pure.{HasKind}
use Rattle.mc_pure.specs.Derived.{LiesIn}
use Rattle.mc_state.specs.State.{State, pure_of}
use Rattle.mc_state.specs.Facts.{Derives, AreEqual, AreAllEqual}

-- the image of a node
abbrev pub image_of : List NodeId → ℕ → ℕ
image_of images n = (get_or images n null).0

-- what is known there is known here, at an equal node
abbrev pub IsKnownToo : State → List NodeId → Option NodeId → Option NodeId → Type 0
IsKnownToo s images None here = Unit {0}
IsKnownToo s images (Some n) None = ⊥
IsKnownToo s images (Some n) (Some m) = AreEqual s (moved (image_of images) n) m

-- each of a list
abbrev pub AreKnownToo : State → List NodeId → List (Option NodeId) → List (Option NodeId) → Type 0
AreKnownToo s images [] [] = Unit {0}
AreKnownToo s images (there ∷ theres) (here ∷ heres) = IsKnownToo s images there here × AreKnownToo s images theres heres
AreKnownToo s images [] (here ∷ heres) = ⊥
AreKnownToo s images (there ∷ theres) [] = ⊥

-- the nodes there and here are equal, one by one
abbrev pub AreImages : State → List NodeId → List NodeId → List NodeId → Type 0
AreImages s images theres heres = AreAllEqual s (map (moved (image_of images)) theres) heres

-- an edge of the same form, predicate or struct, with equal nodes; a field that is unknown there matches any
abbrev pub EdgeMatches : State → List NodeId → Edge → Edge → Type 0
EdgeMatches s images (Block at shape fields) (Block b own heres) = (own ≡ shape)
    × AreEqual s (moved (image_of images) at) b × AreKnownToo s images fields heres
EdgeMatches s images (Ind at pred args) (Ind b own heres) = (own ≡ pred) × AreEqual s (moved (image_of images) at) b
    × AreImages s images args heres
EdgeMatches s images (Seg at args pred «end» ends) (Seg b heres own e there) =
    (own ≡ pred) × AreEqual s (moved (image_of images) at) b × AreImages s images args heres
    × AreEqual s (moved (image_of images) end) e × AreImages s images ends there
EdgeMatches s images (Block at shape fields) (Ind b own heres) = ⊥
EdgeMatches s images (Block at shape fields) (Seg b heres own e there) = ⊥
EdgeMatches s images (Ind at pred args) (Block b own heres) = ⊥
EdgeMatches s images (Ind at pred args) (Seg b heres own e there) = ⊥
EdgeMatches s images (Seg at args pred «end» ends) (Block b own heres) = ⊥
EdgeMatches s images (Seg at args pred «end» ends) (Ind b own heres) = ⊥

-- one for each edge there
abbrev pub EdgesMatch : State → List NodeId → Edges → List Edge → Type 0
EdgesMatch s images [] [] = Unit {0}
EdgesMatch s images (t ∷ ts) (e ∷ es) = EdgeMatches s images t.1 e × EdgesMatch s images ts es
EdgesMatch s images [] (e ∷ es) = ⊥
EdgesMatch s images (t ∷ ts) [] = ⊥

-- L13, its premises from 4 on: the state jumps to another by images of that one's nodes and edges for its edges
pub record Jumps (s t : State) (images : List NodeId) (edges : List EdgeId) : Type 0 where
  -- 4: each node there has an image here, of its kind or node 0, whose range lies in the kind's, and 0 has 0
  pub count : length images ≡ suc (length t.kinds)
  pub null_image : image_of images 0 ≡ 0
  pub kinds : AllByRecursion (λ k. HasKind s.kinds k.1 (moved (image_of images) k.0)
      × LiesIn (pure_of s) k.1 (moved (image_of images) k.0) (pos 0)) t.kinds
  -- 5: each variable that is known there is known here at an equal node
  pub vars : AreKnownToo s images t.env s.env
  -- 6: the edges are distinct, one for each edge there; 7: they are here, and match
  pub picked : List Edge
  pub left : Edges
  pub picks : Picks edges s.graph.edges picked left
  pub match : EdgesMatch s images t.graph.edges picked
  -- 8: each atom that is written there, renamed, is entailed here
  pub atoms : AllByRecursion (λ f. Derives s (moved_atom (image_of images) f)) t.atoms
  -- 9: where that state is whole, this one is, and no edge is left
  pub whole : t.whole ≡ true → (s.whole ≡ true) × (left ≡ [])
