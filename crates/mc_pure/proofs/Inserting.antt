-- One more node.
use Rattle.std.proofs.Common.{◌≡◌, ◌≢◌, ℕ, zero, suc, ◌⊎◌, List, [], ◌∷◌, Some, slice_get, map, refl, sym, ◌∙◌, ap, subst, inl, inr, arith}
use Rattle.std.proofs.lemmas.Int.{ints}
use Rattle.std.specs.List.{insert}
use Rattle.mc_base.specs.declared.ids.NodeId.{NodeId}
use Rattle.mc_base.specs.declared.plain.Kind.{Kind}
use Rattle.mc_base.specs.declared.plain.Atom.{Atom}
use Rattle.mc_base.specs.declared.plain.Atom.TheVariants.{Eq, Ne, In}
use Rattle.mc_pure.specs.declared.rows.Row.{Row}
use Rattle.mc_pure.specs.Pure as begin
use Rattle.mc_pure.specs.Pure.{Pure, Kinds, IsNode, HasKind, IsWellFormed, Base, kind_of, kind_atom, address_atom, written, kind, block, apart}
use Rattle.mc_pure.specs.Derived.{Follows, IsFalse, base, itself, turned, chained, shifted, met, widened, fixed, differs, differs_along, raised, lowered, disjoint}
use Rattle.mc_pure.specs.Normal.{low, high}
use Rattle.mc_pure.specs.Nodes.{RiseFrom, with_kind}
use Rattle.mc_pure.specs.Rows.{row_at, At, Over, RowSound, IsSound, nodes_of, Settled}
use Rattle.mc_pure.specs.Steps.{kind_row, IsStable}
use Rattle.mc_pure.specs.Known.{IsFit, with_node}
use Rattle.mc_pure.proofs.True.{follows_from_more, false_from_more}
use Rattle.mc_pure.proofs.Changing.{has_row, decide}
use Rattle.mc_pure.proofs.Placing.{less_or, first_kind, next_kind, here_kind, later_kind}
use Rattle.mc_pure.proofs.Starting.{known_over, kind_sound}

-- a list with one more element
inserted : {X : Type 0} (xs : List X) (i : ℕ) (y : X) (j : ℕ) (z : X) → slice_get (insert xs i y) j ≡ Some z → ((k : ℕ) × (slice_get xs k ≡ Some z)) ⊎ (z ≡ y)
inserted [] zero y zero z e = inr cc
inserted [] zero y (suc j) z e = cc
inserted [] (suc i) y zero z e = inr cc
inserted [] (suc i) y (suc j) z e = cc
inserted (x ∷ xs) zero y zero z e = inr cc
inserted (x ∷ xs) zero y (suc j) z e = inl (j, e)
inserted (x ∷ xs) (suc i) y zero z e = inl (zero, e)
inserted (x ∷ xs) (suc i) y (suc j) z e = elim (inserted xs i y j z e) [ inl k ↦ inl (suc k.0, k.1) | inr k ↦ inr k ]

old_there : {X : Type 0} (xs : List X) (i : ℕ) (y : X) (j : ℕ) (z : X) → slice_get xs j ≡ Some z → (k : ℕ) × (slice_get (insert xs i y) k ≡ Some z)
old_there [] i y j z e = cc
old_there (x ∷ xs) zero y j z e = (suc j, e)
old_there (x ∷ xs) (suc i) y zero z e = (zero, e)
old_there (x ∷ xs) (suc i) y (suc j) z e = let k = old_there xs i y j z e in (suc k.0, k.1)

new_there : {X : Type 0} (xs : List X) (i : ℕ) (y : X) → (k : ℕ) × (slice_get (insert xs i y) k ≡ Some y)
new_there [] zero y = (zero, refl)
new_there [] (suc i) y = (zero, refl)
new_there (x ∷ xs) zero y = (zero, refl)
new_there (x ∷ xs) (suc i) y = let k = new_there xs i y in (suc k.0, k.1)

nodes_insert : (rows : List Row) (i : ℕ) (r : Row) → map (λ r. r.node) (insert rows i r) ≡ insert (map (λ r. r.node) rows) i r.node
nodes_insert [] zero r = refl
nodes_insert [] (suc i) r = refl
nodes_insert (x ∷ rows) zero r = refl
nodes_insert (x ∷ rows) (suc i) r = ap (λ (z : List NodeId). x.node ∷ z) (nodes_insert rows i r)

-- kinds with one more
entry_split : (kinds : Kinds) (n : NodeId) (k : Kind) (i : ℕ) (x : NodeId × Kind) → slice_get (with_kind kinds n k) i ≡ Some x → ((j : ℕ) × (slice_get kinds j ≡ Some x)) ⊎ (x ≡ (n, k))
entry_split [] n k zero x e = inr cc
entry_split [] n k (suc i) x e = cc
entry_split (y ∷ kinds) n k i x e = elim (less_or n.0 y.0.0) [
  | inl l ↦ before i (subst (λ (z : Kinds). slice_get z i ≡ Some x) (first_kind y kinds n k l) e)
  | inr l ↦ behind (λ j g. entry_split kinds n k j x g) i (subst (λ (z : Kinds). slice_get z i ≡ Some x) (next_kind y kinds n k l) e)
]
  where
    before : (i : ℕ) → slice_get ((n, k) ∷ y ∷ kinds) i ≡ Some x → ((j : ℕ) × (slice_get (y ∷ kinds) j ≡ Some x)) ⊎ (x ≡ (n, k))
    before zero e = inr cc
    before (suc i) e = inl (i, e)

    behind : ((j : ℕ) → slice_get (with_kind kinds n k) j ≡ Some x → ((m : ℕ) × (slice_get kinds m ≡ Some x)) ⊎ (x ≡ (n, k))) → (i : ℕ) → slice_get (y ∷ with_kind kinds n k) i ≡ Some x → ((j : ℕ) × (slice_get (y ∷ kinds) j ≡ Some x)) ⊎ (x ≡ (n, k))
    behind h zero e = inl (zero, e)
    behind h (suc i) e = elim (h i e) [ inl m ↦ inl (suc m.0, m.1) | inr m ↦ inr m ]

entry_old : (kinds : Kinds) (n : NodeId) (k : Kind) (i : ℕ) (x : NodeId × Kind) → slice_get kinds i ≡ Some x → (j : ℕ) × (slice_get (with_kind kinds n k) j ≡ Some x)
entry_old [] n k i x e = cc
entry_old (y ∷ kinds) n k i x e = elim (less_or n.0 y.0.0) [
  | inl l ↦ (suc i, subst (λ (z : Kinds). slice_get z (suc i) ≡ Some x) (sym (first_kind y kinds n k l)) e)
  | inr l ↦ (let m = behind (λ j g. entry_old kinds n k j x g) i e in (m.0, subst (λ (z : Kinds). slice_get z m.0 ≡ Some x) (sym (next_kind y kinds n k l)) m.1))
]
  where
    behind : ((j : ℕ) → slice_get kinds j ≡ Some x → (m : ℕ) × (slice_get (with_kind kinds n k) m ≡ Some x)) → (i : ℕ) → slice_get (y ∷ kinds) i ≡ Some x → (j : ℕ) × (slice_get (y ∷ with_kind kinds n k) j ≡ Some x)
    behind h zero e = (zero, e)
    behind h (suc i) e = let m = h i e in (suc m.0, m.1)

entry_new : (kinds : Kinds) (n : NodeId) (k : Kind) → (j : ℕ) × (slice_get (with_kind kinds n k) j ≡ Some (n, k))
entry_new [] n k = (zero, refl)
entry_new (y ∷ kinds) n k = elim (less_or n.0 y.0.0) [
  | inl l ↦ (zero, subst (λ (z : Kinds). slice_get z 0 ≡ Some (n, k)) (sym (first_kind y kinds n k l)) refl)
  | inr l ↦ (let m = entry_new kinds n k in (suc m.0, subst (λ (z : Kinds). slice_get z (suc m.0) ≡ Some (n, k)) (sym (next_kind y kinds n k l)) m.1))
]

kind_still : (kinds : Kinds) (n : NodeId) (k : Kind) (a : NodeId) → a ≢ n → kind_of (with_kind kinds n k) a ≡ kind_of kinds a
kind_still [] n k a ne = later_kind (n, k) [] a (λ e. ne (sym e))
kind_still (y ∷ kinds) n k a ne = elim (less_or n.0 y.0.0) [
  | inl l ↦ ap (λ (z : Kinds). kind_of z a) (first_kind y kinds n k l) ∙ later_kind (n, k) (y ∷ kinds) a (λ e. ne (sym e))
  | inr l ↦ ap (λ (z : Kinds). kind_of z a) (next_kind y kinds n k l) ∙ both (kind_still kinds n k a ne)
]
  where
    both : kind_of (with_kind kinds n k) a ≡ kind_of kinds a → kind_of (y ∷ with_kind kinds n k) a ≡ kind_of (y ∷ kinds) a
    both h = elim (decide y.0 a) [
      | inl e ↦ here_kind y (with_kind kinds n k) a e ∙ sym (here_kind y kinds a e)
      | inr e ↦ later_kind y (with_kind kinds n k) a e ∙ h ∙ sym (later_kind y kinds a e)
    ]

module _ (kinds : Kinds) (n : NodeId) (k : Kind) (fresh : IsNode kinds n → ⊥) where
  has_still : (m : Kind) (a : NodeId) → HasKind kinds m a → HasKind (with_kind kinds n k) m a
  has_still m a (inl e) = inl e
  has_still m a (inr e) = inr (kind_still kinds n k a (λ z. fresh (m, inr (ap (λ (w : NodeId). kind_of kinds w) (sym z) ∙ e))) ∙ e)

  node_still : (a : NodeId) → IsNode kinds a → IsNode (with_kind kinds n k) a
  node_still a h = (h.0, has_still h.0 a h.1)

  node_split : (a : NodeId) → IsNode (with_kind kinds n k) a → IsNode kinds a ⊎ (a ≡ n)
  node_split a h = elim (decide a n) [
    | inl e ↦ inr e
    | inr e ↦ inl (h.0, elim h.1 [ inl z ↦ inl z | inr z ↦ inr (sym (kind_still kinds n k a e) ∙ z) ])
  ]

  fit_still : (f : Atom) → IsWellFormed kinds f → IsWellFormed (with_kind kinds n k) f
  fit_still (Eq a b c) w = ((w.0.0, has_still w.0.0 a w.0.1, has_still w.0.0 b w.0.2), w.1)
  fit_still (Ne a b c) w = ((w.0.0, has_still w.0.0 a w.0.1, has_still w.0.0 b w.0.2), w.1)
  fit_still (In a l h) w = (node_still a w.0, w.1, w.2)

-- what follows speaks of nodes that are there
over : (p : Pure) → ((f : Atom) → Base p f → Over (IsNode p.kinds) f) → {f : Atom} → Follows p f → Over (IsNode p.kinds) f
over p h {f} (base b) = h f b
over p h (itself n) = (n, n)
over p h (turned d) = let x = over p h d in (x.1, x.0)
over p h (chained d e) = ((over p h d).0, (over p h e).1)
over p h (shifted d e) = (over p h d).0
over p h (met d e) = over p h d
over p h (widened d q r) = over p h d
over p h (fixed d e) = (over p h d, over p h e)
over p h (differs d) = let x = over p h d in (x.1, x.0)
over p h (differs_along d e) = ((over p h d).0, (over p h e).1)
over p h (raised d e f) = over p h f
over p h (lowered d e f) = over p h f
over p h (disjoint d e q) = (over p h d, over p h e)

module _ (p : Pure) (n : NodeId) (k : Kind) (fresh : IsNode p.kinds n → ⊥) where
  base_still : (f : Atom) → Base p f → Base (with_node p n k) f
  base_still f (written place e) = written place e
  base_still _ begin.zero = begin.zero
  base_still _ (kind {n = m} {k = l} place e) = let x = entry_old p.kinds n k place (m, l) e in kind x.0 x.1
  base_still _ (block place e) = block place e
  base_still _ (apart i j ne x y) = apart i j ne x y

  base_split : (f : Atom) → Base (with_node p n k) f → Base p f ⊎ (f ≡ kind_atom n k)
  base_split f (written place e) = inl (written place e)
  base_split _ begin.zero = inl begin.zero
  base_split _ (kind {n = m} {k = l} place e) = elim (entry_split p.kinds n k place (m, l) e) [
    | inl x ↦ inl (kind x.0 x.1)
    | inr x ↦ inr (ap (λ (z : NodeId × Kind). kind_atom z.0 z.1) x)
  ]
  base_split _ (block place e) = inl (block place e)
  base_split _ (apart i j ne x y) = inl (apart i j ne x y)

  follows_still : (f : Atom) → Follows p f → Follows (with_node p n k) f
  follows_still f d = follows_from_more p (with_node p n k) (node_still p.kinds n k fresh) (λ g b. base (base_still g b)) f d

  pub node_false : IsFalse p → IsFalse (with_node p n k)
  node_false d = false_from_more p (with_node p n k) (node_still p.kinds n k fresh) (λ g b. base (base_still g b)) d

  pub node_fit : IsFit p → IsFit (with_node p n k)
  node_fit h = record { written = λ i f e. fit_still p.kinds n k fresh f (h.written i f e); starts = λ i a e. node_still p.kinds n k fresh a (h.starts i a e) }

  row_still : (r : Row) → RowSound p r → RowSound (with_node p n k) r
  row_still r o = record {
    node = node_still p.kinds n k fresh r.node o.node;
    equal = follows_still (Eq r.node r.rep r.off) o.equal;
    within = follows_still (In r.node (low r) (high r)) o.within;
    full = o.full;
    above = o.above;
    below = o.below;
    above' = o.above';
    below' = o.below';
    least = o.least;
    pinned = o.pinned;
    zero = o.zero;
  }

  module _ (rows : List Row) (place : ℕ) (s : IsSound p rows) (fit : IsFit p) (rise : RiseFrom 1 (with_kind p.kinds n k)) (nodes : nodes_of (with_kind p.kinds n k) ≡ insert (nodes_of p.kinds) place n) where
    at_split : (r : Row) → At (insert rows place (kind_row (n, k))) r → At rows r ⊎ (r ≡ kind_row (n, k))
    at_split r at = inserted rows place (kind_row (n, k)) at.0 r at.1

    rep_there : (r : Row) → At rows r → r.rep ≢ n
    rep_there r at e = fresh (subst (λ (z : NodeId). IsNode p.kinds z) e (over p s.known ((s.each r at).equal)).1)

    node_there : (r : Row) → At rows r → r.node ≢ n
    node_there r at e = fresh (subst (λ (z : NodeId). IsNode p.kinds z) e (s.each r at).node)

    new_at : At (insert rows place (kind_row (n, k))) (kind_row (n, k))
    new_at = new_there rows place (kind_row (n, k))

    old_at : (r : Row) → At rows r → At (insert rows place (kind_row (n, k))) r
    old_at r at = old_there rows place (kind_row (n, k)) at.0 r at.1

    pub node_sound : IsSound (with_node p n k) (insert rows place (kind_row (n, k)))
    node_sound = record {
      each = λ r at. elim (at_split r at) [
        | inl x ↦ row_still r (s.each r x)
        | inr x ↦ (let e = entry_new p.kinds n k in subst (λ (z : Row). RowSound (with_node p n k) z) (sym x) (kind_sound (with_node p n k) (node_fit fit) rise e.0 n k e.1))
      ];
      coherent = λ r q ar aq e. elim (at_split r ar) [
        | inl x ↦ elim (at_split q aq) [
          | inl y ↦ s.coherent r q x y e
          | inr y ↦ absurd (rep_there r x (e ∙ ap (λ (z : Row). z.rep) y))
        ]
        | inr x ↦ elim (at_split q aq) [
          | inl y ↦ absurd (rep_there q y (sym e ∙ ap (λ (z : Row). z.rep) x))
          | inr y ↦ (let same = x ∙ sym y in (ap (λ (z : Row). z.lo) same, ap (λ (z : Row). z.hi) same))
        ]
      ];
      all = λ a h. elim (node_split p.kinds n k fresh a h) [
        | inl x ↦ (let m = s.all a x in (m.0, old_at m.0 m.1, m.2))
        | inr x ↦ (kind_row (n, k), new_at, sym x)
      ];
      once = λ r q ar aq e. elim (at_split r ar) [
        | inl x ↦ elim (at_split q aq) [
          | inl y ↦ s.once r q x y e
          | inr y ↦ absurd (node_there r x (e ∙ ap (λ (z : Row). z.node) y))
        ]
        | inr x ↦ elim (at_split q aq) [
          | inl y ↦ absurd (node_there q y (sym e ∙ ap (λ (z : Row). z.node) x))
          | inr y ↦ x ∙ sym y
        ]
      ];
      known = known_over (with_node p n k) (node_fit fit) rise;
      aligned = nodes_insert rows place (kind_row (n, k)) ∙ ap (λ (z : List NodeId). insert z place n) s.aligned ∙ sym nodes;
    }

    same_row : (a : NodeId) → IsNode p.kinds a → row_at (insert rows place (kind_row (n, k))) a ≡ row_at rows a
    same_row a h =
        let m = has_row rows a (s.all a h) in
        let q = has_row (insert rows place (kind_row (n, k))) a (row_at rows a, old_at (row_at rows a) m.0, m.1) in
        node_sound.once (row_at (insert rows place (kind_row (n, k))) a) (row_at rows a) q.0 (old_at (row_at rows a) m.0) (q.1 ∙ sym m.1)

    settled_still : (f : Atom) → Over (IsNode p.kinds) f → Settled p rows f → Settled (with_node p n k) (insert rows place (kind_row (n, k))) f
    settled_still (Eq a b c) o h = rw (same_row a o.0, same_row b o.1) (node_still p.kinds n k fresh a h.0, node_still p.kinds n k fresh b h.1, h.2, h.3)
    settled_still (In a l u) o h = rw (same_row a o) (node_still p.kinds n k fresh a h.0, h.1, h.2)
    settled_still (Ne a b c) o h = rw (same_row a o.0, same_row b o.1) h

    new_settled : Settled (with_node p n k) (insert rows place (kind_row (n, k))) (kind_atom n k)
    new_settled =
        let q = has_row (insert rows place (kind_row (n, k))) n (kind_row (n, k), new_at, refl) in
        let is = node_sound.once (row_at (insert rows place (kind_row (n, k))) n) (kind_row (n, k)) q.0 new_at q.1 in
        let e = entry_new p.kinds n k in
        let there : IsNode (with_kind p.kinds n k) n = known_over (with_node p n k) (node_fit fit) rise (kind_atom n k) (kind e.0 e.1) in
        let l = ap (λ (z : Row). low z) is in
        let u = ap (λ (z : Row). high z) is in
        (there, omega (arith, ints, l), omega (arith, ints, u))

    pub node_stable : IsStable p rows → IsStable (with_node p n k) (insert rows place (kind_row (n, k)))
    node_stable t f b = elim (base_split f b) [
      | inl x ↦ settled_still f (s.known f x) (t f x)
      | inr x ↦ subst (λ (z : Atom). Settled (with_node p n k) (insert rows place (kind_row (n, k))) z) (sym x) new_settled
    ]
