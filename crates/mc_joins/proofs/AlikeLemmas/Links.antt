-- Renamings that named nodes determine.
use Rattle.std.proofs.Common.{◌≡◌, ◌⊎◌, ◌↔◌, inl, inr, ◌<◌, ◌≤◌, ◌+◌, ℕ, zero, suc, List, [], ◌∷◌, ◌++◌, Bool, true, false, Option, Some, None, map, length, get_or, slice_get, refl, sym, ap, ap₂, subst, ◌∙◌, arith, eqb-true, eq-eqb}
use Rattle.std.specs.Prelude.{◌==◌, Contains, if◌then◌else◌}
use Rattle.std.specs.List.{AllByRecursion}
use Rattle.std.proofs.lemmas.Option.{slice_get_within, slice_get-get_or}
use Rattle.mc_base.specs.declared.ids.EdgeId.{EdgeId}
use Rattle.mc_base.specs.declared.ids.NodeId.{NodeId}
use Rattle.mc_base.specs.declared.plain.Atom.{Atom}
use Rattle.mc_base.specs.declared.plain.Kind.TheVariants.{Ptr}
use Rattle.mc_base.specs.Nodes.{null, moved}
use Rattle.mc_state.specs.declared.graph.edge.Edge.{Edge}
use Rattle.mc_state.specs.Graph.Edges.{known_nodes, nodes_of}
use Rattle.mc_state.specs.Graph.Graph.{Edges}
use Rattle.mc_pure.specs.Pure.{IsNode, kind_of}
use Rattle.mc_pure_ops.specs.Renaming.Images.{Images, image_of, image_or, image, HasOther, IsWith}
use Rattle.mc_state.specs.State.{State}
use Rattle.mc_state.specs.Facts.{Derives}
use Rattle.mc_state.specs.Fits.{IsBounded}
use Rattle.mc_joins.specs.Same.Same.{AreSameUnder}
use Rattle.mc_joins.specs.Alike.Alike.{AreSameBy, moved_edges}
use Rattle.mc_joins.specs.Alike.Named.{AllNamed, AreLinks, AreSameBySome, edge_nodes, named_nodes}
use Rattle.mc_pure.proofs.Changing.{same_node}
use Rattle.mc_state.proofs.Lists.{all_at, all_left, all_right, all_places}
use Rattle.mc_joins.proofs.Agree.{known_moved, append_moved, nodes_moved, env_same, entries_same, atom_same}
use Rattle.mc_joins.proofs.AlikeLemmas.Images.{mapped_at}
use Rattle.mc_joins.proofs.AlikeLemmas.Places.{node_goes}
use Rattle.mc_joins.proofs.AnewLemmas.Lists.{decide}

-- ---- links, one after the other

-- so many nodes have images, and each image is that by every renaming that leads from the nodes to the others
pub record Linked (from to : List NodeId) (i : ℕ) (links : Images) : Type 0 where
  pub agrees : (f : ℕ → ℕ) → map (moved f) from ≡ to → (n m : NodeId) → image_of links n ≡ Some m → moved f n ≡ m
  pub there : (k : ℕ) (n : NodeId) → k < i → slice_get from k ≡ Some n → image_of links n ≡ None → ⊥

pub linked_none : (from to : List NodeId) → Linked from to 0 []
linked_none from to = record { agrees = λ f e n m h. absurd (cc h); there = λ k n l h none. absurd (omega arith) }

some_none : {X : Type 0} {x : X} → Some x ≡ None → ⊥
some_none e = cc

one_some : {X : Type 0} {x y : X} {o : Option X} → o ≡ Some x → o ≡ Some y → x ≡ y
one_some e h = cc

module _ (from to : List NodeId) (i : ℕ) (x y : NodeId) (at_from : slice_get from i ≡ Some x) (at_to : slice_get to i ≡ Some y) where
  goes : (f : ℕ → ℕ) → map (moved f) from ≡ to → moved f x ≡ y
  goes f e = one_some (ap (λ (z : List NodeId). slice_get z i) (sym e) ∙ mapped_at (moved f) from i x at_from) at_to

  before : (k : ℕ) (n : NodeId) → k < i + 1 → slice_get from k ≡ Some n → (k < i) ⊎ (n ≡ x)
  before k n l h = elim (decide k i) [
    | inl e ↦ inr (one_some (ap (slice_get from) (sym e) ∙ h) at_from)
    | inr e ↦ inl (omega arith)
  ]

  added_link : (old new : Images) → IsWith old x y new → Linked from to i old → Linked from to (i + 1) new
  added_link old new w v = record {
    agrees = λ f e n m h. agree f e n m (n.0 == x.0) refl (sym (w n) ∙ h);
    there = λ k n l h none. named k n l h (n.0 == x.0) refl (sym (w n) ∙ none);
  }
    where
      agree : (f : ℕ → ℕ) → map (moved f) from ≡ to → (n m : NodeId) (b : Bool) → (n.0 == x.0) ≡ b → (if b then Some y else image_of old n) ≡ Some m → moved f n ≡ m
      agree f e n m true is h = ap (moved f) (same_node n x (eqb-true n.0 x.0 is)) ∙ (goes f e ∙ one_some refl h)
      agree f e n m false is h = v.agrees f e n m h

      named : (k : ℕ) (n : NodeId) → k < i + 1 → slice_get from k ≡ Some n → (b : Bool) → (n.0 == x.0) ≡ b → (if b then Some y else image_of old n) ≡ None → ⊥
      named k n l h true is none = some_none none
      named k n l h false is none = elim (before k n l h) [
        | inl less ↦ v.there k n less h none
        | inr same ↦ (let own : (n.0 == x.0) ≡ true = eq-eqb n.0 x.0 (ap (λ (z : NodeId). z.0) same) in cc (own, is))
      ]

  kept_link : (old new : Images) → new ≡ old → HasOther old x y → Linked from to i old → Linked from to (i + 1) new
  kept_link old new same other v = subst (Linked from to (i + 1)) (sym same) (record {
    agrees = v.agrees;
    there = λ k n l h none. elim (before k n l h) [
      | inl less ↦ v.there k n less h none
      | inr is ↦ some_none (sym other.1 ∙ (ap (image_of old) (sym is) ∙ none))
    ];
  })

  link_more : (old new : Images) (added : Bool) → (added ≡ true → IsWith old x y new) → (added ≡ false → new ≡ old) → ((added ≡ false) ↔ HasOther old x y) → Linked from to i old → Linked from to (i + 1) new
  link_more old new true yes' no' other v = added_link old new (yes' refl) v
  link_more old new false yes' no' other v = kept_link old new (no' refl) (other.0 refl) v

pub linked_more : (from to : List NodeId) (i : ℕ) (d b : NodeId) → i < length from → i < length to → (old new : Images) (added : Bool)
    → (added ≡ true → IsWith old (get_or from i d) (get_or to i b) new) → (added ≡ false → new ≡ old) → ((added ≡ false) ↔ HasOther old (get_or from i d) (get_or to i b))
    → Linked from to i old → Linked from to (i + 1) new
linked_more from to i d b l m = link_more from to i (get_or from i d) (get_or to i b) (slice_get-get_or from i d l) (slice_get-get_or to i b m)

pub linked_all : (from to : List NodeId) (i : ℕ) (links : Images) → length from ≤ i → Linked from to i links → AreLinks from to links
linked_all from to i links past v f null_stays e = (
  at_null (image_of links null) refl,
  all_places (λ (n : NodeId). f n.0 ≡ image links n.0) from (λ k n h. let less = slice_get_within from k n h in at n (image_of links n) refl (v.there k n (omega arith) h)),
)
  where
    of_image : (n : NodeId) (o : Option NodeId) → image_of links n ≡ o → image links n.0 ≡ (image_or o n).0
    of_image n o is = ap (λ (z : Option NodeId). (image_or z n).0) is

    by_some : (n m : NodeId) → image_of links n ≡ Some m → f n.0 ≡ image links n.0
    by_some n m is = ap (λ (z : NodeId). z.0) (v.agrees f e n m is) ∙ sym (of_image n (Some m) is)

    at : (n : NodeId) (o : Option NodeId) → image_of links n ≡ o → (image_of links n ≡ None → ⊥) → f n.0 ≡ image links n.0
    at n None is there = absurd (there is)
    at n (Some m) is there = by_some n m is

    at_null : (o : Option NodeId) → image_of links null ≡ o → f 0 ≡ image links 0
    at_null None is = null_stays ∙ sym (of_image null None is)
    at_null (Some m) is = by_some null m is

-- two lists that are not of one length: no renaming leads from one to the other
pub not_linked : (from to : List NodeId) (links : Images) → (length from ≡ length to → ⊥) → AreLinks from to links
not_linked from to links differ f null_stays e = absurd (differ (sym (long (moved f) from) ∙ ap length e))
  where
    long : (g : NodeId → NodeId) (xs : List NodeId) → length (map g xs) ≡ length xs
    long g [] = refl
    long g (x ∷ xs) = ap suc (long g xs)

-- ---- named nodes

known_at : (P : NodeId → Type 0) (env : List (Option NodeId)) (place : ℕ) (n : NodeId) → slice_get env place ≡ Some (Some n) → AllByRecursion P (known_nodes env) → P n
known_at P [] place n e a = absurd (cc e)
known_at P (None ∷ env) zero n e a = absurd (cc e)
known_at P (Some m ∷ env) zero n e a = let same : m ≡ n = cc e in subst P same a.0
known_at P (None ∷ env) (suc place) n e a = known_at P env place n e a
known_at P (Some m ∷ env) (suc place) n e a = known_at P env place n e a.1

contained : (P : NodeId → Type 0) (ns : List NodeId) (n : NodeId) → Contains ns n → AllByRecursion P ns → P n
contained P ns n (k, l, is) a = all_at P ns k n (slice_get-get_or ns k n l ∙ ap (λ (z : NodeId). Some z) is) a

edge_node_at : (P : NodeId → Type 0) (es : Edges) (place : ℕ) (id : EdgeId) (e : Edge) (n : NodeId) → slice_get es place ≡ Some (id, e) → Contains (nodes_of e) n → AllByRecursion P (edge_nodes es) → P n
edge_node_at P [] place id e n is c a = absurd (cc is)
edge_node_at P (x ∷ es) zero id e n is c a =
    let same : x ≡ (id, e) = cc is in
    contained P (nodes_of e) n c (subst (λ (z : EdgeId × Edge). AllByRecursion P (nodes_of z.1)) same (all_left P (nodes_of x.1) (edge_nodes es) a))
edge_node_at P (x ∷ es) (suc place) id e n is c a = edge_node_at P es place id e n is c (all_right P (nodes_of x.1) (edge_nodes es) a)

edges_moved : (f : ℕ → ℕ) (es : Edges) → map (moved f) (edge_nodes es) ≡ edge_nodes (moved_edges f es)
edges_moved f [] = refl
edges_moved f (e ∷ es) = append_moved f (nodes_of e.1) (edge_nodes es) ∙ ap₂ (λ (x y : List NodeId). x ++ y) (sym (nodes_moved f e.1)) (edges_moved f es)

module _ (s t : State) (bounded : IsBounded s) where
  -- ---- renamings that agree on the nodes of a state

  module _ (f g back : ℕ → ℕ) (agrees : (n : NodeId) → IsNode s.kinds n → f n.0 ≡ g n.0) where
    moves : (n : NodeId) → IsNode s.kinds n → moved f n ≡ moved g n
    moves n is = same_node (moved f n) (moved g n) (agrees n is)

    same_along : AreSameUnder f back s t → AreSameUnder g back s t
    same_along same = record {
      there = record {
        null_stays = sym (agrees null (Ptr, inl refl)) ∙ same.there.null_stays;
        kind = λ n kind e. ap (kind_of t.kinds) (sym (moves n (kind, inr e))) ∙ same.there.kind n kind e;
        comes_back = λ n is. ap back (sym (agrees n is)) ∙ same.there.comes_back n is;
      };
      again = record {
        null_stays = same.again.null_stays;
        kind = same.again.kind;
        comes_back = λ n is. sym (agrees (moved back n) (node_goes back f t.kinds s.kinds same.again n is)) ∙ same.again.comes_back n is;
      };
      env = sym (env_same s.kinds f g moves s.env bounded.vars) ∙ same.env;
      edges = sym (entries_same s.kinds f g moves s.graph.edges bounded.edges) ∙ same.edges;
      whole = same.whole;
      derived = λ a there. subst (λ (x : Atom). Derives s a ↔ Derives t x) (atom_same s.kinds f g moves a there) (same.derived a there);
    }

  -- ---- the renaming that links named nodes

  module _ (images : Images) (links : AreLinks (named_nodes s) (named_nodes t) images) (named : AllNamed s) where
    leads : (f back : ℕ → ℕ) → AreSameUnder f back s t → map (moved f) (named_nodes s) ≡ named_nodes t
    leads f back same =
        append_moved f (known_nodes s.env) (edge_nodes s.graph.edges)
        ∙ ap₂ (λ (x y : List NodeId). x ++ y)
        (sym (known_moved f s.env) ∙ ap known_nodes same.env)
        (edges_moved f s.graph.edges ∙ ap edge_nodes same.edges)

    linked_agree : (f back : ℕ → ℕ) → AreSameUnder f back s t → (n : NodeId) → IsNode s.kinds n → f n.0 ≡ image images n.0
    linked_agree f back same n is = at is.1
      where
        P : NodeId → Type 0
        P m = f m.0 ≡ image images m.0

        all : AllByRecursion (λ m. f m.0 ≡ image images m.0) (null ∷ named_nodes s)
        all = links f same.there.null_stays (leads f back same)

        at : (n ≡ null) ⊎ (kind_of s.kinds n ≡ Some is.0) → f n.0 ≡ image images n.0
        at (inl e) = subst (λ (m : NodeId). f m.0 ≡ image images m.0) (sym e) all.0
        at (inr e) = elim (decide (f n.0) (image images n.0)) [
          | inl q ↦ q
          | inr q ↦ absurd (named n is.0 e (record {
            vars = λ place h. q (known_at (λ m. f m.0 ≡ image images m.0) s.env place n h (all_left (λ m. f m.0 ≡ image images m.0) (known_nodes s.env) (edge_nodes s.graph.edges) all.1));
            edges = λ place id x h c. q (edge_node_at (λ m. f m.0 ≡ image images m.0) s.graph.edges place id x n h c (all_right (λ m. f m.0 ≡ image images m.0) (known_nodes s.env) (edge_nodes s.graph.edges) all.1));
          }))
        ]

    -- if there is any renaming, it is that one
    pub same_by_links : AreSameBySome s t ↔ AreSameBy (image images) s t
    same_by_links = (
      λ some. (some.1, same_along some.0 (image images) some.1 (linked_agree some.0 some.1 some.2) some.2),
      λ same. (image images, same.0, same.1),
    )
