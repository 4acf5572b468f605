-- Sameness under a renaming is an equivalence.
use Rattle.std.proofs.Common.{◌≡◌, ◌↔◌, ℕ, List, [], ◌∷◌, ◌++◌, map, Option, Some, None, refl, sym, ap, ap₂, subst, ◌∙◌, inl, inr}
use Rattle.std.specs.Prelude.{option_map}
use Rattle.std.specs.List.{AllByRecursion}
use Rattle.mc_base.specs.declared.ids.EdgeId.{EdgeId}
use Rattle.mc_base.specs.declared.ids.NodeId.{NodeId}
use Rattle.mc_base.specs.declared.plain.Atom.{Atom}
use Rattle.mc_base.specs.declared.plain.Atom.TheVariants.{Eq, Ne, In}
use Rattle.mc_base.specs.Atoms.{nodes_of_atom, moved_atom}
use Rattle.mc_base.specs.Nodes.{moved}
use Rattle.mc_state.specs.declared.graph.edge.Edge.{Edge}
use Rattle.mc_state.specs.declared.graph.edge.Edge.TheVariants.{Block, Ind, Seg}
use Rattle.mc_state.specs.Graph.Edges.{known_nodes, nodes_of, moved_edge}
use Rattle.mc_state.specs.Graph.Graph.{Edges}
use Rattle.mc_pure.specs.Pure.{Kinds, IsNode, kind_of}
use Rattle.mc_state.specs.State.{State}
use Rattle.mc_state.specs.Facts.{Derives, AreSame}
use Rattle.mc_state.specs.Fits.{AreNodes}
use Rattle.mc_joins.specs.Same.Same.{IsRenaming, AreSameUnder}
use Rattle.mc_joins.specs.Same.Laws.{SameAsItself, SameIsTurned, SameIsPassedOn}

abbrev numbered_node : ℕ → NodeId
numbered_node n = record { 0 = n }

all_left : (P : NodeId → Type 0) (xs ys : List NodeId) → AllByRecursion P (xs ++ ys) → AllByRecursion P xs × AllByRecursion P ys
all_left P [] ys a = (tt, a)
all_left P (x ∷ xs) ys a = let rest = all_left P xs ys a.1 in ((a.0, rest.0), rest.1)

-- ---- a renaming and another that takes each node back
module _ (f back : ℕ → ℕ) (kinds : Kinds) (comes_back : (n : NodeId) → IsNode kinds n → back (f n.0) ≡ n.0) where
  node_back : (n : NodeId) → IsNode kinds n → moved back (moved f n) ≡ n
  node_back n there = ap numbered_node (comes_back n there)

  nodes_back : (ns : List NodeId) → AreNodes kinds ns → map (moved back) (map (moved f) ns) ≡ ns
  nodes_back [] a = refl
  nodes_back (n ∷ ns) a = ap₂ (λ (m : NodeId) (ms : List NodeId). m ∷ ms) (node_back n a.0) (nodes_back ns a.1)

  pub vars_back : (xs : List (Option NodeId)) → AreNodes kinds (known_nodes xs) → map (option_map (moved back)) (map (option_map (moved f)) xs) ≡ xs
  vars_back [] a = refl
  vars_back (None ∷ xs) a = ap (λ (l : List (Option NodeId)). None ∷ l) (vars_back xs a)
  vars_back (Some n ∷ xs) a = ap₂ (λ (m : NodeId) (l : List (Option NodeId)). Some m ∷ l) (node_back n a.0) (vars_back xs a.1)

  edge_back : (e : Edge) → AreNodes kinds (nodes_of e) → moved_edge back (moved_edge f e) ≡ e
  edge_back (Block at shape fields) a = ap₂ (λ (n : NodeId) (l : List (Option NodeId)). Block n shape l) (node_back at a.0) (vars_back fields a.1)
  edge_back (Ind at pred args) a = ap₂ (λ (n : NodeId) (l : List NodeId). Ind n pred l) (node_back at a.0) (nodes_back args a.1)
  edge_back (Seg at args pred stop ends) a =
      let parts = all_left (IsNode kinds) args (stop ∷ ends) a.1 in
      ap₂ (λ (n : NodeId) (l : List NodeId). Seg n l pred (moved back (moved f stop)) (map (moved back) (map (moved f) ends))) (node_back at a.0) (nodes_back args parts.0)
      ∙ ap₂ (λ (n : NodeId) (l : List NodeId). Seg at args pred n l) (node_back stop parts.1.0) (nodes_back ends parts.1.1)

  pub edges_back : (es : Edges) → AllByRecursion (λ (e : EdgeId × Edge). AreNodes kinds (nodes_of e.1)) es → map (λ (e : EdgeId × Edge). (e.0, moved_edge back e.1)) (map (λ (e : EdgeId × Edge). (e.0, moved_edge f e.1)) es) ≡ es
  edges_back [] a = refl
  edges_back (e ∷ es) a = ap₂ (λ (x : Edge) (l : Edges). (e.0, x) ∷ l) (edge_back e.1 a.0) (edges_back es a.1)

  pub atom_back : (g : Atom) → AreNodes kinds (nodes_of_atom g) → moved_atom back (moved_atom f g) ≡ g
  atom_back (Eq a b c) there = ap₂ (λ (x : NodeId) (y : NodeId). Eq x y c) (node_back a there.0) (node_back b there.1.0)
  atom_back (Ne a b c) there = ap₂ (λ (x : NodeId) (y : NodeId). Ne x y c) (node_back a there.0) (node_back b there.1.0)
  atom_back (In a lo hi) there = ap (λ (x : NodeId). In x lo hi) (node_back a there.0)

-- ---- images are there
module _ (f back : ℕ → ℕ) (kinds others : Kinds) (r : IsRenaming f back kinds others) where
  pub node_goes : (n : NodeId) → IsNode kinds n → IsNode others (moved f n)
  node_goes n there = elim there.1 [
    | inl e ↦ (there.0, inl (ap numbered_node (ap (λ (m : NodeId). f m.0) e ∙ r.null_stays)))
    | inr e ↦ (there.0, inr (r.kind n there.0 e))
  ]

  pub atom_goes : (g : Atom) → AreNodes kinds (nodes_of_atom g) → AreNodes others (nodes_of_atom (moved_atom f g))
  atom_goes (Eq a b c) there = (node_goes a there.0, (node_goes b there.1.0, tt))
  atom_goes (Ne a b c) there = (node_goes a there.0, (node_goes b there.1.0, tt))
  atom_goes (In a lo hi) there = (node_goes a there.0, tt)

-- ---- no renaming at all
itself_vars : (xs : List (Option NodeId)) → map (option_map (moved (λ n. n))) xs ≡ xs
itself_vars [] = refl
itself_vars (None ∷ xs) = ap (λ (l : List (Option NodeId)). None ∷ l) (itself_vars xs)
itself_vars (Some n ∷ xs) = ap (λ (l : List (Option NodeId)). Some n ∷ l) (itself_vars xs)

itself_nodes : (ns : List NodeId) → map (moved (λ n. n)) ns ≡ ns
itself_nodes [] = refl
itself_nodes (n ∷ ns) = ap (λ (l : List NodeId). n ∷ l) (itself_nodes ns)

itself_edge : (e : Edge) → moved_edge (λ n. n) e ≡ e
itself_edge (Block at shape fields) = ap (λ (l : List (Option NodeId)). Block at shape l) (itself_vars fields)
itself_edge (Ind at pred args) = ap (λ (l : List NodeId). Ind at pred l) (itself_nodes args)
itself_edge (Seg at args pred stop ends) = ap₂ (λ (l : List NodeId) (m : List NodeId). Seg at l pred stop m) (itself_nodes args) (itself_nodes ends)

itself_edges : (es : Edges) → map (λ (e : EdgeId × Edge). (e.0, moved_edge (λ n. n) e.1)) es ≡ es
itself_edges [] = refl
itself_edges (e ∷ es) = ap₂ (λ (x : Edge) (l : Edges). (e.0, x) ∷ l) (itself_edge e.1) (itself_edges es)

itself_atom : (g : Atom) → moved_atom (λ n. n) g ≡ g
itself_atom (Eq a b c) = refl
itself_atom (Ne a b c) = refl
itself_atom (In a lo hi) = refl

pub same_as_itself : SameAsItself
same_as_itself s t same =
    record {
      there = record { null_stays = refl; kind = λ n kind e. ap (λ (k : Kinds). kind_of k n) (sym same.kinds) ∙ e; comes_back = λ n there. refl };
      again = record { null_stays = refl; kind = λ n kind e. ap (λ (k : Kinds). kind_of k n) same.kinds ∙ e; comes_back = λ n there. refl };
      env = itself_vars s.env ∙ same.env;
      edges = itself_edges s.graph.edges ∙ same.edges;
      whole = same.whole;
      derived = λ a there. subst (λ (b : Atom). Derives s a ↔ Derives t b) (sym (itself_atom a)) (same.derived a);
    }

pub same_is_turned : SameIsTurned
same_is_turned f back s t bounded same =
    record {
      there = same.again;
      again = same.there;
      env = ap (map (option_map (moved back))) (sym same.env) ∙ vars_back f back s.kinds same.there.comes_back s.env bounded.vars;
      edges = ap (map (λ (e : EdgeId × Edge). (e.0, moved_edge back e.1))) (sym same.edges) ∙ edges_back f back s.kinds same.there.comes_back s.graph.edges bounded.edges;
      whole = sym same.whole;
      derived = λ a there.
          let both = same.derived (moved_atom back a) (atom_goes back f t.kinds s.kinds same.again a there) in
          let is = atom_back back f t.kinds same.again.comes_back a there in
          (λ d. both.1 (subst (Derives t) (sym is) d), λ d. subst (Derives t) is (both.0 d));
    }

-- ---- one renaming after another
module _ (f g : ℕ → ℕ) where
  twice_vars : (xs : List (Option NodeId)) → map (option_map (moved (λ n. g (f n)))) xs ≡ map (option_map (moved g)) (map (option_map (moved f)) xs)
  twice_vars [] = refl
  twice_vars (None ∷ xs) = ap (λ (l : List (Option NodeId)). None ∷ l) (twice_vars xs)
  twice_vars (Some n ∷ xs) = ap (λ (l : List (Option NodeId)). Some (moved g (moved f n)) ∷ l) (twice_vars xs)

  twice_nodes : (ns : List NodeId) → map (moved (λ n. g (f n))) ns ≡ map (moved g) (map (moved f) ns)
  twice_nodes [] = refl
  twice_nodes (n ∷ ns) = ap (λ (l : List NodeId). moved g (moved f n) ∷ l) (twice_nodes ns)

  twice_edge : (e : Edge) → moved_edge (λ n. g (f n)) e ≡ moved_edge g (moved_edge f e)
  twice_edge (Block at shape fields) = ap (λ (l : List (Option NodeId)). Block (moved g (moved f at)) shape l) (twice_vars fields)
  twice_edge (Ind at pred args) = ap (λ (l : List NodeId). Ind (moved g (moved f at)) pred l) (twice_nodes args)
  twice_edge (Seg at args pred stop ends) = ap₂ (λ (l : List NodeId) (m : List NodeId). Seg (moved g (moved f at)) l pred (moved g (moved f stop)) m) (twice_nodes args) (twice_nodes ends)

  twice_edges : (es : Edges) → map {A = EdgeId × Edge} {B = EdgeId × Edge} (λ (e : EdgeId × Edge). (e.0, moved_edge (λ n. g (f n)) e.1)) es ≡ map {A = EdgeId × Edge} {B = EdgeId × Edge} (λ (e : EdgeId × Edge). (e.0, moved_edge g e.1)) (map {A = EdgeId × Edge} {B = EdgeId × Edge} (λ (e : EdgeId × Edge). (e.0, moved_edge f e.1)) es)
  twice_edges [] = refl
  twice_edges (e ∷ es) = ap₂ (λ (x : Edge) (l : Edges). (e.0, x) ∷ l) (twice_edge e.1) (twice_edges es)

  twice_atom : (a : Atom) → moved_atom (λ n. g (f n)) a ≡ moved_atom g (moved_atom f a)
  twice_atom (Eq a b c) = refl
  twice_atom (Ne a b c) = refl
  twice_atom (In a lo hi) = refl

twice_renaming : (f back g forth : ℕ → ℕ) (a b c : Kinds) → IsRenaming f back a b → IsRenaming g forth b c → IsRenaming (λ n. g (f n)) (λ n. back (forth n)) a c
twice_renaming f back g forth a b c r q =
    record {
      null_stays = ap g r.null_stays ∙ q.null_stays;
      kind = λ n kind e. q.kind (moved f n) kind (r.kind n kind e);
      comes_back = λ n there. ap back (q.comes_back (moved f n) (node_goes f back a b r n there)) ∙ r.comes_back n there;
    }

pub same_is_passed_on : SameIsPassedOn
same_is_passed_on f back g forth s t u one two =
    record {
      there = twice_renaming f back g forth s.kinds t.kinds u.kinds one.there two.there;
      again = twice_renaming forth g back f u.kinds t.kinds s.kinds two.again one.again;
      env = twice_vars f g s.env ∙ ap (map (option_map (moved g))) one.env ∙ two.env;
      edges = twice_edges f g s.graph.edges ∙ ap (map (λ (e : EdgeId × Edge). (e.0, moved_edge g e.1))) one.edges ∙ two.edges;
      whole = one.whole ∙ two.whole;
      derived = λ a there.
          let first = one.derived a there in
          let second = two.derived (moved_atom f a) (atom_goes f back s.kinds t.kinds one.there a there) in
          let is = twice_atom f g a in
          (λ d. subst (Derives u) (sym is) (second.0 (first.0 d)), λ d. first.1 (second.1 (subst (Derives u) is d)));
    }
