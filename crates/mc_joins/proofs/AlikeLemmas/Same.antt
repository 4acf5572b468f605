-- Sameness, from what the written atoms say.
use Rattle.std.proofs.Common.{◌≡◌, ◌⊎◌, inl, inr, ℕ, zero, suc, List, [], ◌∷◌, Some, map, slice_get, refl, sym, ap, ap₂, subst, ◌∙◌, pos}
use Rattle.std.specs.Prelude.{option_map}
use Rattle.std.specs.List.{AllByRecursion}
use Rattle.mc_base.specs.declared.ids.EdgeId.{EdgeId}
use Rattle.mc_base.specs.declared.ids.NodeId.{NodeId}
use Rattle.mc_base.specs.declared.plain.Atom.{Atom}
use Rattle.mc_base.specs.declared.plain.Atom.TheVariants.{Eq, Ne, In}
use Rattle.mc_base.specs.Atoms.{nodes_of_atom, moved_atom}
use Rattle.mc_base.specs.Nodes.{null, moved}
use Rattle.mc_state.specs.declared.graph.edge.Edge.{Edge}
use Rattle.mc_state.specs.declared.graph.edge.Edge.TheVariants.{Block, Ind, Seg}
use Rattle.mc_state.specs.Graph.Edges.{nodes_of as edge_nodes}
use Rattle.mc_state.specs.Graph.Graph.{Edges, block_starts}
use Rattle.mc_pure.specs.Pure.{Kinds, Pure, IsNode, Base, kind_of}
use Rattle.mc_pure.specs.Pure as pure
use Rattle.mc_pure.specs.Rows.{nodes_of}
use Rattle.mc_pure.specs.Derived.{Follows, IsFalse, Derived}
use Rattle.mc_pure.specs.Derived as derived
use Rattle.mc_state.specs.State.{State, pure_of}
use Rattle.mc_state.specs.Facts.{Derives}
use Rattle.mc_state.specs.Fits.{AreNodes, IsBounded}
use Rattle.mc_joins.specs.Same.Same.{IsRenaming}
use Rattle.mc_joins.specs.Same.Laws.{FollowsRenamed, FalseRenamed}
use Rattle.mc_joins.specs.Alike.Alike.{AreSameBy, way_back, IsBijection, moved_edges, AreKnown}
use Rattle.mc_joins.proofs.AlikeLemmas.Images.{mapped_at, mapped_from}
use Rattle.mc_state.proofs.Lists.{all_at}
use Rattle.mc_joins.proofs.AlikeLemmas.Places.{kind_place, place_kind, node_at, place_of, origin_first, node_goes, kind_goes, renaming_from}

-- ---- starts of blocks

pub starts_moved : (f : ℕ → ℕ) (es : Edges) → block_starts (moved_edges f es) ≡ map (moved f) (block_starts es)
starts_moved f [] = refl
starts_moved f ((id, Block at shape fields) ∷ es) = ap (λ (z : List NodeId). moved f at ∷ z) (starts_moved f es)
starts_moved f ((id, Ind at pred args) ∷ es) = starts_moved f es
starts_moved f ((id, Seg at args pred stop ends) ∷ es) = starts_moved f es

start_there : (kinds : Kinds) (es : Edges) (i : ℕ) (n : NodeId) → AllByRecursion (λ (e : EdgeId × Edge). AreNodes kinds (edge_nodes e.1)) es → slice_get (block_starts es) i ≡ Some n → IsNode kinds n
start_there kinds [] i n a e = absurd (cc e)
start_there kinds ((id, Block at shape fields) ∷ es) zero n a e = let q : at ≡ n = cc in subst (IsNode kinds) q a.0.0
start_there kinds ((id, Block at shape fields) ∷ es) (suc i) n a e = start_there kinds es i n a.1 e
start_there kinds ((id, Ind at pred args) ∷ es) i n a e = start_there kinds es i n a.1 e
start_there kinds ((id, Seg at args pred stop ends) ∷ es) i n a e = start_there kinds es i n a.1 e

abbrev StartsGo : (ℕ → ℕ) → List NodeId → List NodeId → Type 0
StartsGo f xs ys = (place : ℕ) (n : NodeId) → slice_get xs place ≡ Some n → slice_get ys place ≡ Some (moved f n)

starts_go : (f : ℕ → ℕ) (es others : Edges) → moved_edges f es ≡ others → StartsGo f (block_starts es) (block_starts others)
starts_go f es others e place n h =
    subst (λ (z : List NodeId). slice_get z place ≡ Some (moved f n)) (sym (starts_moved f es) ∙ ap block_starts e) (mapped_at (moved f) (block_starts es) place n h)

starts_return : (f back : ℕ → ℕ) (kinds others : Kinds) (r : IsRenaming f back kinds others) (es news : Edges) → AllByRecursion (λ (e : EdgeId × Edge). AreNodes kinds (edge_nodes e.1)) es → moved_edges f es ≡ news → StartsGo back (block_starts news) (block_starts es)
starts_return f back kinds others r es news a e place m h =
    let mapped : slice_get (map (moved f) (block_starts es)) place ≡ Some m = subst (λ (z : List NodeId). slice_get z place ≡ Some m) (ap block_starts (sym e) ∙ starts_moved f es) h in
    let found = mapped_from (moved f) (block_starts es) place m mapped in
    let n = found.0 in
    let there = start_there kinds es place n a found.1 in
    let number : ℕ → NodeId = λ k. record { 0 = k } in
    let same : moved back m ≡ n = ap (moved back) (sym found.2) ∙ ap number (r.comes_back n there) in
    found.1 ∙ ap (λ (z : NodeId). Some z) (sym same)

-- ---- what is entailed goes with the nodes

either : (q : Pure) (g : Atom → Atom) (atoms : List Atom) → ((place : ℕ) (a : Atom) → slice_get atoms place ≡ Some a → Derived q (g a)) → IsFalse q ⊎ ((place : ℕ) (a : Atom) → slice_get atoms place ≡ Some a → Follows q (g a))
either q g [] h = inr (λ place a e. absurd (cc e))
either q g (x ∷ atoms) h = join (h 0 x refl) (either q g atoms (λ place a e. h (suc place) a e))
  where
    all : Follows q (g x) → ((place : ℕ) (a : Atom) → slice_get atoms place ≡ Some a → Follows q (g a)) → (place : ℕ) (a : Atom) → slice_get (x ∷ atoms) place ≡ Some a → Follows q (g a)
    all first rest zero a e = let s : x ≡ a = cc in subst (λ (z : Atom). Follows q (g z)) s first
    all first rest (suc place) a e = rest place a e

    join : Derived q (g x) → IsFalse q ⊎ ((place : ℕ) (a : Atom) → slice_get atoms place ≡ Some a → Follows q (g a)) → IsFalse q ⊎ ((place : ℕ) (a : Atom) → slice_get (x ∷ atoms) place ≡ Some a → Follows q (g a))
    join (inr wrong) rest = inl wrong
    join (inl first) (inl wrong) = inl wrong
    join (inl first) (inr rest) = inr (all first rest)

module _ (follows : FollowsRenamed) (wrong : FalseRenamed) (s t : State) (f back : ℕ → ℕ) (r : IsRenaming f back s.kinds t.kinds) (bounded : IsBounded s) (starts : StartsGo f (block_starts s.graph.edges) (block_starts t.graph.edges)) (known : AreKnown f s.atoms t) where
  bases : ((place : ℕ) (a : Atom) → slice_get s.atoms place ≡ Some a → Follows (pure_of t) (moved_atom f a)) → (a : Atom) → Base (pure_of s) a → Follows (pure_of t) (moved_atom f a)
  bases all a (pure.Base.written place e) = all place a e
  bases all a pure.Base.zero = subst (λ (z : ℕ). Follows (pure_of t) (In (record { 0 = z }) (pos 0) (pos 0))) (sym r.null_stays) (derived.Follows.base pure.Base.zero)
  bases all a (pure.Base.kind {n} {k} place e) =
      let own = place_kind 1 s.kinds s.next place n k bounded.kinds e in
      let h = kind_place t.kinds (moved f n) k (r.kind n k own) in
      derived.Follows.base (pure.Base.kind h.0 h.1)
  bases all a (pure.Base.block {a = n} place e) = derived.Follows.base (pure.Base.block place (starts place n e))
  bases all a (pure.Base.apart {a = m} {b = n} i j differ x y) = derived.Follows.base (pure.Base.apart i j differ (starts i m x) (starts j n y))

  pub goes_along : (a : Atom) → Derives s a → Derives t (moved_atom f a)
  goes_along a d = elim (either (pure_of t) (moved_atom f) s.atoms known) [
    | inl bad ↦ inr bad
    | inr all ↦ both all d
  ]
    where
      both : ((place : ℕ) (x : Atom) → slice_get s.atoms place ≡ Some x → Follows (pure_of t) (moved_atom f x)) → Derives s a → Derives t (moved_atom f a)
      both all (inl x) = inl (follows (pure_of s) (pure_of t) f (node_goes f back s.kinds t.kinds r) (bases all) a x)
      both all (inr bad) = inr (wrong (pure_of s) (pure_of t) f (node_goes f back s.kinds t.kinds r) (bases all) bad)

-- ---- atoms that come back

module _ (f back : ℕ → ℕ) (kinds others : Kinds) (r : IsRenaming f back kinds others) where
  node_back : (n : NodeId) → IsNode kinds n → moved back (moved f n) ≡ n
  node_back n there = let number : ℕ → NodeId = λ k. record { 0 = k } in ap number (r.comes_back n there)

  pub atom_back : (g : Atom) → AreNodes kinds (nodes_of_atom g) → moved_atom back (moved_atom f g) ≡ g
  atom_back (Eq a b c) there = ap₂ (λ (x : NodeId) (y : NodeId). Eq x y c) (node_back a there.0) (node_back b there.1.0)
  atom_back (Ne a b c) there = ap₂ (λ (x : NodeId) (y : NodeId). Ne x y c) (node_back a there.0) (node_back b there.1.0)
  atom_back (In a lo hi) there = ap (λ (x : NodeId). In x lo hi) (node_back a there.0)

  pub atom_goes : (g : Atom) → AreNodes kinds (nodes_of_atom g) → AreNodes others (nodes_of_atom (moved_atom f g))
  atom_goes (Eq a b c) there = (node_goes f back kinds others r a there.0, (node_goes f back kinds others r b there.1.0, tt))
  atom_goes (Ne a b c) there = (node_goes f back kinds others r a there.0, (node_goes f back kinds others r b there.1.0, tt))
  atom_goes (In a lo hi) there = (node_goes f back kinds others r a there.0, tt)

-- ---- both ways

way_back_null : (f : ℕ → ℕ) (s t : State) → IsBijection f s t → way_back f s 0 ≡ 0
way_back_null f s t b = ap (way_back f s) (sym b.null_stays) ∙ (b.there 0 null refl).comes_back

pub there_from : (f : ℕ → ℕ) (s t : State) → IsBijection f s t → IsRenaming f (way_back f s) s.kinds t.kinds
there_from f s t b = renaming_from f (way_back f s) s.kinds t.kinds b.null_stays b.there

pub again_from : (f : ℕ → ℕ) (s t : State) → IsBijection f s t → IsRenaming (way_back f s) f t.kinds s.kinds
again_from f s t b = renaming_from (way_back f s) f t.kinds s.kinds (way_back_null f s t b) b.again

-- the parts that are compared
pub record Parts (f : ℕ → ℕ) (s t : State) : Type 0 where
  pub nodes : IsBijection f s t
  pub whole : s.whole ≡ t.whole
  pub env : map (option_map (moved f)) s.env ≡ t.env
  pub edges : moved_edges f s.graph.edges ≡ t.graph.edges
  pub there : AreKnown f s.atoms t
  pub again : AreKnown (way_back f s) t.atoms s

pub same_from_parts : FollowsRenamed → FalseRenamed → (f : ℕ → ℕ) (s t : State) → IsBounded s → IsBounded t → Parts f s t → AreSameBy f s t
same_from_parts follows wrong f s t bounded other p = (
  way_back f s,
  record {
    there = r;
    again = q;
    env = p.env;
    edges = p.edges;
    whole = p.whole;
    derived = λ a nodes. (
      goes_along follows wrong s t f (way_back f s) r bounded (starts_go f s.graph.edges t.graph.edges p.edges) p.there a,
      λ d. subst (Derives s) (atom_back f (way_back f s) s.kinds t.kinds r a nodes)
          (goes_along follows wrong t s (way_back f s) f q other (starts_return f (way_back f s) s.kinds t.kinds r s.graph.edges t.graph.edges bounded.edges p.edges) p.again (moved_atom f a) d),
    );
  },
)
  where
    r : IsRenaming f (way_back f s) s.kinds t.kinds
    r = there_from f s t p.nodes

    q : IsRenaming (way_back f s) f t.kinds s.kinds
    q = again_from f s t p.nodes

bijection_from : (f : ℕ → ℕ) (s t : State) → IsBounded s → IsBounded t → AreSameBy f s t → IsBijection f s t
bijection_from f s t bounded other (back, same) = record {
  null_stays = same.there.null_stays;
  there = λ place n e.
      let is = node_at s.kinds s.next place n bounded.kinds e in
      record {
        kind = kind_goes f back s.kinds t.kinds same.there s.next t.next bounded.kinds other.kinds n is;
        comes_back = first n place e;
      };
  again = λ place m e.
      let is = node_at t.kinds t.next place m other.kinds e in
      let from = node_goes back f t.kinds s.kinds same.again m is in
      let h = place_of s.kinds (moved back m) from in
      let agree : way_back f s m.0 ≡ back m.0 = ap (way_back f s) (sym (same.again.comes_back m is)) ∙ first (moved back m) h.0 h.1 in
      let number : ℕ → NodeId = λ k. record { 0 = k } in
      record {
        kind = ap (kind_of s.kinds) (ap number agree) ∙ kind_goes back f t.kinds s.kinds same.again t.next s.next other.kinds bounded.kinds m is;
        comes_back = ap f agree ∙ same.again.comes_back m is;
      };
}
  where
    first : (n : NodeId) (place : ℕ) → slice_get (nodes_of s.kinds) place ≡ Some n → way_back f s (f n.0) ≡ n.0
    first n place e = origin_first f back (nodes_of s.kinds) (λ p x q. same.there.comes_back x (node_at s.kinds s.next p x bounded.kinds q)) place n e

pub parts_from_same : (f : ℕ → ℕ) (s t : State) → IsBounded s → IsBounded t → AreSameBy f s t → Parts f s t
parts_from_same f s t bounded other (back, same) = record {
  nodes = b;
  whole = same.whole;
  env = same.env;
  edges = same.edges;
  there = λ place a e. (same.derived a (all_at (λ (x : Atom). AreNodes s.kinds (nodes_of_atom x)) s.atoms place a e bounded.atoms)).0 (inl (derived.Follows.base (pure.Base.written place e)));
  again = λ place a e.
      let is = all_at (λ (x : Atom). AreNodes t.kinds (nodes_of_atom x)) t.atoms place a e other.atoms in
      let q = again_from f s t b in
      (same.derived (moved_atom (way_back f s) a) (atom_goes (way_back f s) f t.kinds s.kinds q a is)).1
      (subst (Derives t) (sym (atom_back (way_back f s) f t.kinds s.kinds q a is)) (inl (derived.Follows.base (pure.Base.written place e))));
}
  where
    b : IsBijection f s t
    b = bijection_from f s t bounded other (back, same)
