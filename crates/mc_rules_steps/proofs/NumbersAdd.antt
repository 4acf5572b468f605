-- A new node that is a number tells nothing of the other nodes.
use Rattle.std.proofs.Common.{◌≡◌, ◌⊎◌, ◌<◌, ℕ, zero, suc, List, [], ◌∷◌, ◌++◌, Bool, true, false, Some, None, slice_get, eq-eqb, refl, ap, ap₂, sym, ◌∙◌, subst, inl, inr, arith, ℤ, pos, negsuc, neg_ℤ, ◌+ℤ◌, ◌-ℤ◌, ◌≤ℤ◌, ◌<ℤ◌}
use Rattle.std.specs.Prelude.{◌==◌, if◌then◌else◌}
use Rattle.std.specs.Int.{int_max, int_min}
use Rattle.std.specs.List.{AllByRecursion}
use Rattle.std.proofs.lemmas.Int.{ints, clamps}
use Rattle.mc_base.specs.declared.ids.NodeId.{NodeId}
use Rattle.mc_base.specs.declared.plain.Atom.{Atom}
use Rattle.mc_base.specs.declared.plain.Atom.TheVariants.{Eq, Ne, In}
use Rattle.mc_base.specs.declared.plain.Kind.{Kind}
use Rattle.mc_base.specs.declared.plain.Kind.TheVariants.{Int, Ptr}
use Rattle.mc_base.specs.Atoms.{nodes_of_atom}
use Rattle.mc_base.specs.Kinds.{InKind}
use Rattle.mc_base.specs.Nodes.{null}
use Rattle.mc_state.specs.Graph.Graph.{block_starts}
use Rattle.mc_pure.specs.Derived.{Follows, IsFalse, base, itself, turned, chained, shifted, met, widened, fixed, differs, differs_along, raised, lowered, disjoint, empty, apart, more}
use Rattle.mc_pure.specs.Pure.{Pure, Kinds, IsNode, HasKind, Base, kind_of}
use Rattle.mc_pure.specs.Pure as pure
use Rattle.mc_state.specs.State.{State, pure_of, next_node, with_number}
use Rattle.mc_state.specs.Fits.{NodesAscend, AreNodes, IsBounded}
use Rattle.mc_rules_steps.proofs.Bounded.{starts_there}

-- ---- one of a list

slice_all : {X : Type 0} (P : X → Type 0) (xs : List X) (i : ℕ) (x : X) → AllByRecursion P xs → slice_get xs i ≡ Some x → P x
slice_all P [] i x a e = absurd (cc e)
slice_all P (y ∷ xs) zero x a e = let same : y ≡ x = cc e in subst P same a.0
slice_all P (y ∷ xs) (suc i) x a e = slice_all P xs i x a.1 e

slice_last : {X : Type 0} (xs : List X) (last x : X) (i : ℕ) → slice_get (xs ++ last ∷ []) i ≡ Some x → (slice_get xs i ≡ Some x) ⊎ (last ≡ x)
slice_last [] last x zero e = inr (cc e)
slice_last [] last x (suc i) e = absurd (cc e)
slice_last (y ∷ xs) last x zero e = inl e
slice_last (y ∷ xs) last x (suc i) e = slice_last xs last x i e

kind_below : (low high : ℕ) (ks : Kinds) (i : ℕ) (m : NodeId) (k : Kind) → NodesAscend low ks high → slice_get ks i ≡ Some (m, k) → m.0 < high
kind_below low high [] i m k a e = absurd (cc e)
kind_below low high (x ∷ ks) zero m k a e =
    let same : x ≡ (m, k) = cc e in
    subst (λ (y : NodeId × Kind). y.0.0 < high) same a.1
kind_below low high (x ∷ ks) (suc i) m k a e = kind_below (suc x.0.0) high ks i m k a.2 e

other_kind : (ks : Kinds) (last : NodeId × Kind) (m : NodeId) (k : Kind) → (last.0.0 == m.0) ≡ false → kind_of (ks ++ last ∷ []) m ≡ Some k → kind_of ks m ≡ Some k
other_kind [] last m k differ e = absurd (let none : kind_of (last ∷ []) m ≡ None = ap (λ b. if b then Some last.1 else None) differ in cc (none, e))
other_kind (x ∷ ks) last m k differ e = at (λ h. other_kind ks last m k differ h) (x.0.0 == m.0) e
  where
    at : (kind_of (ks ++ last ∷ []) m ≡ Some k → kind_of ks m ≡ Some k) → (b : Bool) → (if b then Some x.1 else kind_of (ks ++ last ∷ []) m) ≡ Some k → (if b then Some x.1 else kind_of ks m) ≡ Some k
    at others true e = e
    at others false e = others e

-- ---- numbers

module _ (p : Pure) where
  eq_as : (a b : NodeId) (k m : ℤ) → k ≡ m → Follows p (Eq a b k) → Follows p (Eq a b m)
  eq_as a b k m e h = subst (λ (z : ℤ). Follows p (Eq a b z)) e h

  ne_as : (a b : NodeId) (k m : ℤ) → k ≡ m → Follows p (Ne a b k) → Follows p (Ne a b m)
  ne_as a b k m e h = subst (λ (z : ℤ). Follows p (Ne a b z)) e h

  in_as : (a : NodeId) (lo hi m k : ℤ) → lo ≡ m → hi ≡ k → Follows p (In a lo hi) → Follows p (In a m k)
  in_as a lo hi m k e f h = subst (λ (z : ℤ). Follows p (In a z k)) e (subst (λ (z : ℤ). Follows p (In a lo z)) f h)

  -- each way to follow, where the nodes are others and numbers more: a is A and x, b is B and y, d is D and z
  turned_by : (A B : NodeId) (x y c : ℤ) → Follows p (Eq A B ((c +ℤ y) -ℤ x)) → Follows p (Eq B A ((neg_ℤ c +ℤ x) -ℤ y))
  turned_by A B x y c h = eq_as B A (neg_ℤ ((c +ℤ y) -ℤ x)) ((neg_ℤ c +ℤ x) -ℤ y) (omega (arith, ints)) (turned h)

  chained_by : (A B D : NodeId) (x y z c e : ℤ) → Follows p (Eq A B ((c +ℤ y) -ℤ x)) → Follows p (Eq B D ((e +ℤ z) -ℤ y)) → Follows p (Eq A D (((c +ℤ e) +ℤ z) -ℤ x))
  chained_by A B D x y z c e h k = eq_as A D (((c +ℤ y) -ℤ x) +ℤ ((e +ℤ z) -ℤ y)) (((c +ℤ e) +ℤ z) -ℤ x) (omega (arith, ints)) (chained h k)

  shifted_by : (A B : NodeId) (x y c lo hi : ℤ) → Follows p (Eq A B ((c +ℤ y) -ℤ x)) → Follows p (In B (lo -ℤ y) (hi -ℤ y)) → Follows p (In A ((lo +ℤ c) -ℤ x) ((hi +ℤ c) -ℤ x))
  shifted_by A B x y c lo hi h k =
      in_as A ((lo -ℤ y) +ℤ ((c +ℤ y) -ℤ x)) ((hi -ℤ y) +ℤ ((c +ℤ y) -ℤ x)) ((lo +ℤ c) -ℤ x) ((hi +ℤ c) -ℤ x) (omega (arith, ints)) (omega (arith, ints)) (shifted h k)

  met_by : (A : NodeId) (x lo hi m k : ℤ) → Follows p (In A (lo -ℤ x) (hi -ℤ x)) → Follows p (In A (m -ℤ x) (k -ℤ x)) → Follows p (In A (int_max lo m -ℤ x) (int_min hi k -ℤ x))
  met_by A x lo hi m k h g =
      in_as A (int_max (lo -ℤ x) (m -ℤ x)) (int_min (hi -ℤ x) (k -ℤ x)) (int_max lo m -ℤ x) (int_min hi k -ℤ x) (omega (arith, ints, clamps)) (omega (arith, ints, clamps)) (met h g)

  widened_by : (A : NodeId) (x lo hi m k : ℤ) → Follows p (In A (lo -ℤ x) (hi -ℤ x)) → m ≤ℤ lo → hi ≤ℤ k → Follows p (In A (m -ℤ x) (k -ℤ x))
  widened_by A x lo hi m k h low high = widened h (omega (arith, ints)) (omega (arith, ints))

  fixed_by : (A B : NodeId) (x y k m : ℤ) → Follows p (In A (k -ℤ x) (k -ℤ x)) → Follows p (In B (m -ℤ y) (m -ℤ y)) → Follows p (Eq A B (((k -ℤ m) +ℤ y) -ℤ x))
  fixed_by A B x y k m h g = eq_as A B ((k -ℤ x) -ℤ (m -ℤ y)) (((k -ℤ m) +ℤ y) -ℤ x) (omega (arith, ints)) (fixed h g)

  differs_by : (A B : NodeId) (x y c : ℤ) → Follows p (Ne A B ((c +ℤ y) -ℤ x)) → Follows p (Ne B A ((neg_ℤ c +ℤ x) -ℤ y))
  differs_by A B x y c h = ne_as B A (neg_ℤ ((c +ℤ y) -ℤ x)) ((neg_ℤ c +ℤ x) -ℤ y) (omega (arith, ints)) (differs h)

  along_by : (A B D : NodeId) (x y z c e : ℤ) → Follows p (Ne A B ((c +ℤ y) -ℤ x)) → Follows p (Eq B D ((e +ℤ z) -ℤ y)) → Follows p (Ne A D (((c +ℤ e) +ℤ z) -ℤ x))
  along_by A B D x y z c e h k = ne_as A D (((c +ℤ y) -ℤ x) +ℤ ((e +ℤ z) -ℤ y)) (((c +ℤ e) +ℤ z) -ℤ x) (omega (arith, ints)) (differs_along h k)

  raised_by : (A B : NodeId) (x y c k hi : ℤ) → Follows p (Ne A B ((c +ℤ y) -ℤ x)) → Follows p (In B (k -ℤ y) (k -ℤ y)) → Follows p (In A ((k +ℤ c) -ℤ x) (hi -ℤ x))
      → Follows p (In A (((k +ℤ c) +ℤ pos 1) -ℤ x) (hi -ℤ x))
  raised_by A B x y c k hi h g i =
      let here = in_as A ((k +ℤ c) -ℤ x) (hi -ℤ x) ((k -ℤ y) +ℤ ((c +ℤ y) -ℤ x)) (hi -ℤ x) (omega (arith, ints)) refl i in
      in_as A (((k -ℤ y) +ℤ ((c +ℤ y) -ℤ x)) +ℤ pos 1) (hi -ℤ x) (((k +ℤ c) +ℤ pos 1) -ℤ x) (hi -ℤ x) (omega (arith, ints)) refl (raised h g here)

  lowered_by : (A B : NodeId) (x y c k lo : ℤ) → Follows p (Ne A B ((c +ℤ y) -ℤ x)) → Follows p (In B (k -ℤ y) (k -ℤ y)) → Follows p (In A (lo -ℤ x) ((k +ℤ c) -ℤ x))
      → Follows p (In A (lo -ℤ x) (((k +ℤ c) -ℤ pos 1) -ℤ x))
  lowered_by A B x y c k lo h g i =
      let here = in_as A (lo -ℤ x) ((k +ℤ c) -ℤ x) (lo -ℤ x) ((k -ℤ y) +ℤ ((c +ℤ y) -ℤ x)) refl (omega (arith, ints)) i in
      in_as A (lo -ℤ x) (((k -ℤ y) +ℤ ((c +ℤ y) -ℤ x)) -ℤ pos 1) (lo -ℤ x) (((k +ℤ c) -ℤ pos 1) -ℤ x) refl (omega (arith, ints)) (lowered h g here)

  disjoint_by : (A B : NodeId) (x y c lo hi m k : ℤ) → Follows p (In A (lo -ℤ x) (hi -ℤ x)) → Follows p (In B (m -ℤ y) (k -ℤ y)) → (hi <ℤ (m +ℤ c)) ⊎ ((k +ℤ c) <ℤ lo) → Follows p (Ne A B ((c +ℤ y) -ℤ x))
  disjoint_by A B x y c lo hi m k h g (inl less) = disjoint h g (inl (omega (arith, ints)))
  disjoint_by A B x y c lo hi m k h g (inr less) = disjoint h g (inr (omega (arith, ints)))

module _ (s : State) (c : ℤ) (bounded : IsBounded s) (below : (m : NodeId) → IsNode s.kinds m → m.0 < s.next) (int : InKind Int c) where
  abbrev p : Pure
  p = pure_of s

  -- the new node is null and the number; each other one is itself
  abbrev new : NodeId → Bool
  new a = a.0 == s.next

  abbrev as_node : NodeId → NodeId
  as_node a = if new a then null else a

  abbrev as_more : NodeId → ℤ
  as_more a = if new a then c else pos 0

  -- the atom about those
  abbrev as_atom : Atom → Atom
  as_atom (Eq a b k) = Eq (as_node a) (as_node b) ((k +ℤ as_more b) -ℤ as_more a)
  as_atom (Ne a b k) = Ne (as_node a) (as_node b) ((k +ℤ as_more b) -ℤ as_more a)
  as_atom (In a lo hi) = In (as_node a) (lo -ℤ as_more a) (hi -ℤ as_more a)

  old : (a : NodeId) → a.0 < s.next → new a ≡ false
  old a less = unequal a.0 s.next less
    where
      unequal : (m n : ℕ) → m < n → (m == n) ≡ false
      unequal m n less = grind arith

  old_node : (a : NodeId) → new a ≡ false → as_node a ≡ a
  old_node a e = ap (λ b. if b then null else a) e

  old_more : (a : NodeId) → new a ≡ false → as_more a ≡ pos 0
  old_more a e = ap (λ b. if b then c else pos 0) e

  new_is : new (next_node s) ≡ true
  new_is = eq-eqb s.next s.next refl

  -- an atom about old nodes is about them
  same_two : (A B a b : NodeId) (x y k : ℤ) → A ≡ a → B ≡ b → x ≡ pos 0 → y ≡ pos 0 → (Eq A B ((k +ℤ y) -ℤ x) ≡ Eq a b k) × (Ne A B ((k +ℤ y) -ℤ x) ≡ Ne a b k)
  same_two A B a b x y k e f g h =
      let number : (k +ℤ y) -ℤ x ≡ k = omega (arith, ints) in (
        ap (λ A. Eq A B ((k +ℤ y) -ℤ x)) e ∙ ap (λ B. Eq a B ((k +ℤ y) -ℤ x)) f ∙ ap (Eq a b) number,
        ap (λ A. Ne A B ((k +ℤ y) -ℤ x)) e ∙ ap (λ B. Ne a B ((k +ℤ y) -ℤ x)) f ∙ ap (Ne a b) number,
      )

  same_one : (A a : NodeId) (x lo hi : ℤ) → A ≡ a → x ≡ pos 0 → In A (lo -ℤ x) (hi -ℤ x) ≡ In a lo hi
  same_one A a x lo hi e g =
      let low : lo -ℤ x ≡ lo = omega (arith, ints) in
      let high : hi -ℤ x ≡ hi = omega (arith, ints) in
      ap (λ A. In A (lo -ℤ x) (hi -ℤ x)) e ∙ ap₂ (In a) low high

  old_atom : (f : Atom) → AreNodes s.kinds (nodes_of_atom f) → as_atom f ≡ f
  old_atom (Eq a b k) there =
      let l = old a (below a there.0) in
      let r = old b (below b there.1.0) in
      (same_two (as_node a) (as_node b) a b (as_more a) (as_more b) k (old_node a l) (old_node b r) (old_more a l) (old_more b r)).0
  old_atom (Ne a b k) there =
      let l = old a (below a there.0) in
      let r = old b (below b there.1.0) in
      (same_two (as_node a) (as_node b) a b (as_more a) (as_more b) k (old_node a l) (old_node b r) (old_more a l) (old_more b r)).1
  old_atom (In a lo hi) there = let l = old a (below a there.0) in same_one (as_node a) a (as_more a) lo hi (old_node a l) (old_more a l)

  -- the new node is null, and the number more
  new_range : (a : NodeId) (lo hi : ℤ) → new a ≡ true → lo ≤ℤ c → c ≤ℤ hi → Follows p (as_atom (In a lo hi))
  new_range a lo hi e low high =
      let node : as_node a ≡ null = ap (λ b. if b then null else a) e in
      let number : as_more a ≡ c = ap (λ b. if b then c else pos 0) e in
      at (as_node a) (as_more a) node number
    where
      at : (A : NodeId) (x : ℤ) → A ≡ null → x ≡ c → Follows p (In A (lo -ℤ x) (hi -ℤ x))
      at A x node number = subst (λ (m : NodeId). Follows p (In m (lo -ℤ x) (hi -ℤ x))) (sym node) (widened (base pure.zero) (omega (arith, ints)) (omega (arith, ints)))

  from_old : (f : Atom) → AreNodes s.kinds (nodes_of_atom f) → Base p f → Follows p (as_atom f)
  from_old f there b = subst (Follows p) (sym (old_atom f there)) (base b)

  starts_are : AreNodes s.kinds (block_starts s.graph.edges)
  starts_are = starts_there s.kinds s.graph.edges bounded.edges

  base_as : (f : Atom) → Base (pure_of (with_number s c)) f → Follows p (as_atom f)
  base_as f (pure.written i e) =
      elim (slice_last s.atoms (In (next_node s) c c) f i e) [
        | inl is ↦ from_old f (slice_all (λ (f : Atom). AreNodes s.kinds (nodes_of_atom f)) s.atoms i f bounded.atoms is) (pure.written i is)
        | inr is ↦ subst (λ (f : Atom). Follows p (as_atom f)) is (new_range (next_node s) c c new_is (omega (arith, ints)) (omega (arith, ints)))
      ]
  base_as f pure.zero = from_old f ((Ptr, inl refl), tt) pure.zero
  base_as f (pure.kind {n = m} {k = k} i e) =
      elim (slice_last s.kinds (next_node s, Int) (m, k) i e) [
        | inl is ↦ kind_old m k i is
        | inr is ↦ subst (λ (j : NodeId × Kind). Follows p (as_atom (pure.kind_atom j.0 j.1))) is (let low = int.0 in let high = int.1 in new_range (next_node s) (negsuc 2147483647) (pos 2147483647) new_is (omega (arith, ints)) (omega (arith, ints)))
      ]
    where
      kind_old : (m : NodeId) (k : Kind) (i : ℕ) → slice_get s.kinds i ≡ Some (m, k) → Follows p (as_atom (pure.kind_atom m k))
      kind_old m k i is =
          let l = old m (kind_below 1 s.next s.kinds i m k bounded.kinds is) in
          subst (Follows p) (sym (same_one (as_node m) m (as_more m) (pure.low_of k) (pure.high_of k) (old_node m l) (old_more m l))) (base (pure.kind i is))
  base_as f (pure.block {a = a} i e) = from_old f (slice_all (IsNode s.kinds) (block_starts s.graph.edges) i a starts_are e, tt) (pure.block i e)
  base_as f (pure.apart {a = a} {b = b} i j differ e e') =
      from_old f (slice_all (IsNode s.kinds) (block_starts s.graph.edges) i a starts_are e, (slice_all (IsNode s.kinds) (block_starts s.graph.edges) j b starts_are e', tt)) (pure.apart i j differ e e')

  itself_as : (a : NodeId) → IsNode (with_number s c).kinds a → Follows p (as_atom (Eq a a (pos 0)))
  itself_as a is =
      eq_as p (as_node a) (as_node a) (pos 0) ((pos 0 +ℤ as_more a) -ℤ as_more a) (zero_is (as_more a)) (itself (there (new a) refl))
    where
      zero_is : (x : ℤ) → pos 0 ≡ (pos 0 +ℤ x) -ℤ x
      zero_is x = omega (arith, ints)

      turn : (m n : ℕ) → (m == n) ≡ false → (n == m) ≡ false
      turn m n e = grind arith

      there : (b : Bool) → new a ≡ b → IsNode s.kinds (if b then null else a)
      there true e = (Ptr, inl refl)
      there false e = (
        is.0,
        elim is.1 [
          | inl same ↦ inl same
          | inr kind ↦ inr (other_kind s.kinds (next_node s, Int) a is.0 (turn a.0 s.next e) kind)
        ],
      )

  -- what follows follows of those nodes before
  follows_as : (f : Atom) → Follows (pure_of (with_number s c)) f → Follows p (as_atom f)
  follows_as f (base b) = base_as f b
  follows_as f (itself {a = a} is) = itself_as a is
  follows_as f (turned {a = a} {b = b} {c = k} h) = turned_by p (as_node a) (as_node b) (as_more a) (as_more b) k (follows_as (Eq a b k) h)
  follows_as f (chained {a = a} {b = b} {d = d} {c = k} {e = m} h g) =
      chained_by p (as_node a) (as_node b) (as_node d) (as_more a) (as_more b) (as_more d) k m (follows_as (Eq a b k) h) (follows_as (Eq b d m) g)
  follows_as f (shifted {a = a} {b = b} {c = k} {lo = lo} {hi = hi} h g) =
      shifted_by p (as_node a) (as_node b) (as_more a) (as_more b) k lo hi (follows_as (Eq a b k) h) (follows_as (In b lo hi) g)
  follows_as f (met {a = a} {lo = lo} {hi = hi} {m = m} {k = k} h g) = met_by p (as_node a) (as_more a) lo hi m k (follows_as (In a lo hi) h) (follows_as (In a m k) g)
  follows_as f (widened {a = a} {lo = lo} {hi = hi} {m = m} {k = k} h low high) = widened_by p (as_node a) (as_more a) lo hi m k (follows_as (In a lo hi) h) low high
  follows_as f (fixed {a = a} {b = b} {k = k} {m = m} h g) = fixed_by p (as_node a) (as_node b) (as_more a) (as_more b) k m (follows_as (In a k k) h) (follows_as (In b m m) g)
  follows_as f (differs {a = a} {b = b} {c = k} h) = differs_by p (as_node a) (as_node b) (as_more a) (as_more b) k (follows_as (Ne a b k) h)
  follows_as f (differs_along {a = a} {b = b} {d = d} {c = k} {e = m} h g) =
      along_by p (as_node a) (as_node b) (as_node d) (as_more a) (as_more b) (as_more d) k m (follows_as (Ne a b k) h) (follows_as (Eq b d m) g)
  follows_as f (raised {a = a} {b = b} {c = k} {k = m} {hi = hi} h g i) =
      raised_by p (as_node a) (as_node b) (as_more a) (as_more b) k m hi (follows_as (Ne a b k) h) (follows_as (In b m m) g) (follows_as (In a (m +ℤ k) hi) i)
  follows_as f (lowered {a = a} {b = b} {c = k} {k = m} {lo = lo} h g i) =
      lowered_by p (as_node a) (as_node b) (as_more a) (as_more b) k m lo (follows_as (Ne a b k) h) (follows_as (In b m m) g) (follows_as (In a lo (m +ℤ k)) i)
  follows_as f (disjoint {a = a} {b = b} {c = k} {lo = lo} {hi = hi} {m = m} {k = n} h g less) =
      disjoint_by p (as_node a) (as_node b) (as_more a) (as_more b) k lo hi m n (follows_as (In a lo hi) h) (follows_as (In b m n) g) less

  false_as : IsFalse (pure_of (with_number s c)) → IsFalse p
  false_as (empty {a = a} {lo = lo} {hi = hi} less h) = empty (moved_less lo hi (as_more a) less) (follows_as (In a lo hi) h)
    where
      moved_less : (lo hi x : ℤ) → hi <ℤ lo → (hi -ℤ x) <ℤ (lo -ℤ x)
      moved_less lo hi x less = omega (arith, ints)
  false_as (apart {a = a} h) = apart (ne_as p (as_node a) (as_node a) ((pos 0 +ℤ as_more a) -ℤ as_more a) (pos 0) (zero_is (as_more a)) (follows_as (Ne a a (pos 0)) h))
    where
      zero_is : (x : ℤ) → (pos 0 +ℤ x) -ℤ x ≡ pos 0
      zero_is x = omega (arith, ints)
  false_as (more {a = a} {c = k} ne h) = more (λ e. ne (back k (as_more a) e)) (follows_as (Eq a a k) h)
    where
      back : (k x : ℤ) → (k +ℤ x) -ℤ x ≡ pos 0 → k ≡ pos 0
      back k x e = omega (arith, ints)

  -- the state with the number is false only where it was
  pub false_before : IsFalse (pure_of (with_number s c)) → IsFalse (pure_of s)
  false_before h = false_as h

  -- and what follows of old nodes followed
  pub followed_before : (f : Atom) → AreNodes s.kinds (nodes_of_atom f) → Follows (pure_of (with_number s c)) f → Follows (pure_of s) f
  followed_before f there h = subst (Follows p) (old_atom f there) (follows_as f h)
