-- What is written stays, and is entailed.
use Rattle.std.proofs.Common.{◌≡◌, inl, ℕ, ℤ, pos, ◌+ℤ◌, ◌-ℤ◌, neg_ℤ, List, [], ◌∷◌, ◌++◌, length, slice_get, Some, sym, subst, arith}
use Rattle.std.proofs.lemmas.Int.{ints}
use Rattle.mc_base.specs.declared.ids.NodeId.{NodeId}
use Rattle.mc_base.specs.declared.plain.Atom.{Atom}
use Rattle.mc_base.specs.declared.plain.Atom.TheVariants.{Eq, Ne, In}
use Rattle.mc_base.specs.declared.plain.Kind.{Kind}
use Rattle.mc_base.specs.Nodes.{null}
use Rattle.mc_state.specs.declared.graph.edge.Edge.{Edge}
use Rattle.mc_state.specs.Graph.Graph.{Edges}
use Rattle.mc_pure.specs.Derived.{Follows, base, itself, turned, chained, shifted, differs, differs_along}
use Rattle.mc_pure.specs.Pure as known
use Rattle.mc_pure.specs.Pure.{Base, HasKind, IsNode}
use Rattle.mc_pure.proofs.Growing.{last_there, still_there}
use Rattle.mc_pure.proofs.True.{follows_from_more}
use Rattle.mc_state.specs.declared.terms.Term.{Term}
use Rattle.mc_state.specs.Facts.{IsFalse, Derives, AreEqual, AreAllEqual}
use Rattle.mc_state.specs.Fits.{IsBounded, HaveKinds}
use Rattle.mc_state.specs.State.{State, pure_of, next_node, with_nodes, with_atoms}
use Rattle.mc_state.specs.Terms.{plain}
use Rattle.mc_state.proofs.Bounds.{new_nodes_have_kinds}
use Rattle.mc_rules_logic.specs.Fold.Changed.{alone}
use Rattle.mc_follow.specs.Ending.Ending.{Written, AreSameTerms, AreAllSameTerms, IsNamed, AreNamed, IsGrown, IsLater}

-- ---- what is written is entailed

pub derived : (s : State) (f : Atom) → Written s f → Follows (pure_of s) f
derived s f h = follows_from_more (alone s) (pure_of s) (λ n is. is) bases f h
  where
    bases : (g : Atom) → Base (alone s) g → Follows (pure_of s) g
    bases g (known.written place e) = base (known.written place e)
    bases g known.zero = base known.zero
    bases g (known.kind place e) = base (known.kind place e)
    bases g (known.block place e) = absurd (cc e)
    bases g (known.apart i j ne x y) = absurd (cc x)

pub derives : (s : State) (f : Atom) → Written s f → Derives s f
derives s f h = inl (derived s f h)

-- ---- states that grow

pub still : (s : State) → IsGrown s s
still s = record { kinds = λ kind n h. h; written = λ f h. h }

pub grown_on : (s t u : State) → IsGrown s t → IsGrown t u → IsGrown s u
grown_on s t u a b = record { kinds = λ kind n h. b.kinds kind n (a.kinds kind n h); written = λ f h. b.written f (a.written f h) }

pub later_on : (s t u : State) → IsLater s t → IsGrown t u → IsLater s u
later_on s t u a b = record { kinds = λ kind n h. b.kinds kind n (a.kinds kind n h); known = λ f h. b.written f (a.known f h) }

-- the state in which a new node is another node and a number more
abbrev pub spare : State → NodeId → ℤ → Kind → State
spare s node add kind = with_atoms (with_nodes s (kind ∷ [])) (Eq (next_node s) node add ∷ [])

pub spare_grown : (s : State) (node : NodeId) (add : ℤ) (kind : Kind) → IsBounded s → IsGrown s (spare s node add kind)
spare_grown s node add kind bounded = record {
  kinds = more;
  written = λ f h. follows_from_more (alone s) (alone (spare s node add kind)) (λ n is. (is.0, more is.0 n is.1)) bases f h;
}
  where
    more : (k : Kind) (n : NodeId) → HasKind s.kinds k n → HasKind (with_nodes s (kind ∷ [])).kinds k n
    more = (new_nodes_have_kinds s (kind ∷ []) bounded).1

    bases : (g : Atom) → Base (alone s) g → Follows (alone (spare s node add kind)) g
    bases g (known.written place e) = base (known.written place (still_there s.atoms (Eq (next_node s) node add) place g e))
    bases g known.zero = base known.zero
    bases _ (known.kind {n} {k} place e) = base (known.kind place (still_there s.kinds (next_node s, kind) place (n, k) e))
    bases g (known.block place e) = absurd (cc e)
    bases g (known.apart i j ne x y) = absurd (cc x)

-- the new node is named
pub spare_named : (s : State) (node : NodeId) (add : ℤ) (kind : Kind) (t : Term) → t.node ≡ node → t.add ≡ add → IsBounded s → IsNamed (spare s node add kind) kind t (next_node s)
spare_named s node add kind t same_node same_add bounded = (
  (new_nodes_have_kinds s (kind ∷ []) bounded).0.0,
  subst (λ (n : NodeId). Written (spare s node add kind) (Eq (next_node s) n t.add)) (sym same_node)
      (subst (λ (z : ℤ). Written (spare s node add kind) (Eq (next_node s) node z)) (sym same_add)
      (base (known.written (length s.atoms) (last_there s.atoms (Eq (next_node s) node add))))),
)

-- ---- equal terms

-- an equation of another number that is the same
pub eq_as : (s : State) (a b : NodeId) (c d : ℤ) → c ≡ d → Written s (Eq a b c) → Written s (Eq a b d)
eq_as s a b c d e h = subst (λ (z : ℤ). Written s (Eq a b z)) e h

pub ne_as : (s : State) (a b : NodeId) (c d : ℤ) → c ≡ d → Written s (Ne a b c) → Written s (Ne a b d)
ne_as s a b c d e h = subst (λ (z : ℤ). Written s (Ne a b z)) e h

pub same_grown : (s t : State) → IsGrown s t → (x y : Term) → AreSameTerms s x y → AreSameTerms t x y
same_grown s t g x y h = g.written (Eq x.node y.node (y.add -ℤ x.add)) h

pub all_same_grown : (s t : State) → IsGrown s t → (xs ys : List Term) → AreAllSameTerms s xs ys → AreAllSameTerms t xs ys
all_same_grown s t g [] [] h = tt
all_same_grown s t g [] (y ∷ ys) h = absurd h
all_same_grown s t g (x ∷ xs) [] h = absurd h
all_same_grown s t g (x ∷ xs) (y ∷ ys) h = (same_grown s t g x y h.0, all_same_grown s t g xs ys h.1)

pub named_grown : (s t : State) → IsGrown s t → (kinds : List Kind) (ts : List Term) (ns : List NodeId) → AreNamed s kinds ts ns → AreNamed t kinds ts ns
named_grown s t g [] [] [] h = tt
named_grown s t g [] [] (n ∷ ns) h = absurd h
named_grown s t g [] (x ∷ ts) ns h = absurd h
named_grown s t g (kind ∷ kinds) [] ns h = absurd h
named_grown s t g (kind ∷ kinds) (x ∷ ts) [] h = absurd h
named_grown s t g (kind ∷ kinds) (x ∷ ts) (n ∷ ns) h = ((g.kinds kind n h.0.0, g.written (Eq n x.node x.add) h.0.1), named_grown s t g kinds ts ns h.1)

-- a node with a term's value equals each node that equals the term
pub node_meets : (s : State) (t : Term) (n m : NodeId) → Written s (Eq n t.node t.add) → AreSameTerms s t (plain m) → AreEqual s n m
node_meets s t n m a b =
    let zero_is : t.add +ℤ (pos 0 -ℤ t.add) ≡ pos 0 = omega (arith, ints) in
    derives s (Eq n m (pos 0)) (eq_as s n m (t.add +ℤ (pos 0 -ℤ t.add)) (pos 0) zero_is (chained a b))

-- and the term equals it
pub term_meets : (s : State) (t : Term) (n : NodeId) → Written s (Eq n t.node t.add) → AreSameTerms s t (plain n)
term_meets s t n a =
    let back : neg_ℤ t.add ≡ pos 0 -ℤ t.add = omega (arith, ints) in
    eq_as s t.node n (neg_ℤ t.add) (pos 0 -ℤ t.add) back (turned a)

-- a node alone is its term's
pub plain_named : (s : State) (kind : Kind) (t : Term) → t.add ≡ pos 0 → HasKind s.kinds kind t.node → IsNamed s kind t t.node
plain_named s kind t e has = (has, eq_as s t.node t.node (pos 0) t.add (sym e) (itself (kind, has)))
