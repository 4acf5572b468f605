-- What follows of two nodes, where what is known can be true.
use Rattle.std.proofs.Common.{◌≡◌, ◌≢◌, ◌↔◌, ◌⊎◌, ℤ, pos, negsuc, ◌+ℤ◌, ◌-ℤ◌, neg_ℤ, ◌≤ℤ◌, ◌<ℤ◌, Bool, true, false, IsTrue, Option, Some, None, MatchOption, rules, refl, sym, subst, inl, inr, arith}
use Rattle.std.proofs.lemmas.Int.{ints, clamps}
use Rattle.std.specs.Int.{int_max, int_min}
use Rattle.mc_base.specs.declared.ids.NodeId.{NodeId}
use Rattle.mc_base.specs.declared.plain.Kind.{Kind}
use Rattle.mc_base.specs.declared.plain.Kind.TheVariants.{Int, Ptr}
use Rattle.mc_base.specs.declared.plain.Atom.{Atom}
use Rattle.mc_base.specs.declared.plain.Atom.TheVariants.{Eq, Ne, In}
use Rattle.mc_base.specs.Ranges.Ends.{IsInt}
use Rattle.mc_pure.specs.Pure as begin
use Rattle.mc_pure.specs.Pure.{Pure, IsNode, HasKind, IsOffset, low_of, high_of}
use Rattle.mc_pure.specs.Derived.{Follows, IsFalse, Derived, HasRange, base, turned, chained, shifted, met, empty, more}
use Rattle.mc_pure.specs.Canonical.{IsLeast}
use Rattle.mc_pure_ops.specs.declared.join.equalities.Shift.{Shift}
use Rattle.mc_pure_ops.specs.Join.Parts.{IsDistance}
use Rattle.mc_pure_ops.proofs.JoinLemmas.Sorted.{kind_place}
use Rattle.mc_pure.proofs.Changing.{same_node}

pub not_below : (a b : ℤ) → (b <ℤ a → ⊥) → a ≤ℤ b
not_below a b n = grind (arith, ints)

pub eq_as : (p : Pure) {a b a' b' : NodeId} {c c' : ℤ} → Follows p (Eq a b c) → a ≡ a' → b ≡ b' → c ≡ c' → Follows p (Eq a' b' c')
eq_as p {a} {b} {a'} {b'} {c} {c'} d e f g =
    subst (λ (z : ℤ). Follows p (Eq a' b' z)) g (subst (λ (z : NodeId). Follows p (Eq a' z c)) f (subst (λ (z : NodeId). Follows p (Eq z b c)) e d))

pub ne_as : (p : Pure) {a b a' b' : NodeId} {c c' : ℤ} → Follows p (Ne a b c) → a ≡ a' → b ≡ b' → c ≡ c' → Follows p (Ne a' b' c')
ne_as p {a} {b} {a'} {b'} {c} {c'} d e f g =
    subst (λ (z : ℤ). Follows p (Ne a' b' z)) g (subst (λ (z : NodeId). Follows p (Ne a' z c)) f (subst (λ (z : NodeId). Follows p (Ne z b c)) e d))

-- the range of a node's kind
pub kind_range : (p : Pure) (kind : Kind) (a : NodeId) → HasKind p.kinds kind a → (lo hi : ℤ) × Follows p (In a lo hi) × (low_of kind ≤ℤ lo) × (hi ≤ℤ high_of kind)
kind_range p kind a (inl e) = (pos 0, pos 0, subst (λ (z : NodeId). Follows p (In z (pos 0) (pos 0))) (sym e) (base begin.zero), low kind, high kind)
  where
    low : (k : Kind) → low_of k ≤ℤ pos 0
    low Int = omega (arith, ints)
    low Ptr = omega (arith, ints)

    high : (k : Kind) → pos 0 ≤ℤ high_of k
    high Int = omega (arith, ints)
    high Ptr = omega (arith, ints)
kind_range p kind a (inr e) = let k = kind_place p.kinds a kind e in (low_of kind, high_of kind, base (begin.kind k.0 k.1), omega (arith, ints), omega (arith, ints))

widest : (kind : Kind) → (negsuc 2147483647 ≤ℤ low_of kind) × (high_of kind ≤ℤ pos 4611686018427387903)
widest Int = (omega (arith, ints), omega (arith, ints))
widest Ptr = (omega (arith, ints), omega (arith, ints))

module _ (p : Pure) (nf : IsFalse p → ⊥) where
  pub self_zero : (a : NodeId) (c : ℤ) → Follows p (Eq a a c) → c ≡ pos 0
  self_zero a c d = elim (zero_or c) [ inl e ↦ e | inr ne ↦ absurd (nf (more ne d)) ]
    where
      zero_or : (c : ℤ) → (c ≡ pos 0) ⊎ (c ≢ pos 0)
      zero_or c = grind (arith, ints)

  pub offset_once : (a b : NodeId) (c e : ℤ) → Follows p (Eq a b c) → Follows p (Eq a b e) → c ≡ e
  offset_once a b c e d f = let z = self_zero a (c +ℤ neg_ℤ e) (chained d (turned f)) in omega (arith, ints)

  -- two ranges of a node meet
  pub meets : (a : NodeId) (l h m k : ℤ) → Follows p (In a l h) → Follows p (In a m k) → (l ≤ℤ k) × (m ≤ℤ h)
  meets a l h m k d e =
      let x = not_below (int_max l m) (int_min h k) (λ w. nf (empty w (met d e))) in
      (omega (arith, ints, clamps, x), omega (arith, ints, clamps, x))

  -- an equality that follows has an offset that may be written
  pub eq_offset : (a b : NodeId) (c : ℤ) → IsNode p.kinds a → IsNode p.kinds b → Follows p (Eq a b c) → IsOffset c
  eq_offset a b c na nb d =
      let x = kind_range p na.0 a na.1 in
      let y = kind_range p nb.0 b nb.1 in
      let u = widest na.0 in
      let v = widest nb.0 in
      let m = meets a x.0 x.1 (y.0 +ℤ c) (y.1 +ℤ c) x.2 (shifted d y.2) in
      (omega (arith, ints, m.0, x.3, y.4, u.0, v.1), omega (arith, ints, m.1, x.4, y.3, u.1, v.0))

  pub range_once : (n : NodeId) (l h m k : ℤ) → HasRange p n l h → HasRange p n m k → (l ≡ m) × (h ≡ k)
  range_once n l h m k x y =
      let u = x.least m k y.follows in
      let v = y.least l h x.follows in
      (omega (arith, ints, u.0, v.0), omega (arith, ints, u.1, v.1))

  pub range_full : (n : NodeId) (l h : ℤ) → HasRange p n l h → (h <ℤ l) → ⊥
  range_full n l h x w = nf (empty w x.follows)

  pub int_range : (n : NodeId) (l h : ℤ) → HasKind p.kinds Int n → HasRange p n l h → (l ≤ℤ h) × IsInt l × IsInt h
  int_range n l h k x =
      let y = kind_range p Int n k in
      let w = x.least y.0 y.1 y.2 in
      let f = not_below l h (range_full n l h x) in
      (f, (omega (arith, ints, y.3, w.0), omega (arith, ints, f, w.1, y.4)), (omega (arith, ints, f, y.3, w.0), omega (arith, ints, w.1, y.4)))

  -- the distance of two nodes by their classes
  pub apart_none : (a b least other : NodeId) (x y : ℤ) → IsLeast p least → IsLeast p other → Follows p (Eq a least x) → Follows p (Eq b other y) → least.0 ≢ other.0 → IsDistance p a b None
  apart_none a b least other x y l m d e ne c f =
      let g = chained (chained (turned d) f) e in
      let u = l.1 other _ g in
      let v = m.1 least _ (turned g) in
      ne (omega arith)

  pub by_offsets : (a b least other : NodeId) (x y : ℤ) (o : Option Shift) → IsNode p.kinds a → IsNode p.kinds b → Follows p (Eq a least x) → Follows p (Eq b other y) → least.0 ≡ other.0
      → MatchOption o (IsOffset (x -ℤ y) → ⊥) (λ d. d.by ≡ x -ℤ y) → IsDistance p a b o
  by_offsets a b least other x y None na nb d e s h = λ c f. h (eq_offset a b (x -ℤ y) na nb (eq_as p (chained (eq_as p d refl (same_node least other s) refl) (turned e)) refl refl (omega (arith, ints))))
  by_offsets a b least other x y (Some dist) na nb d e s h =
      let g : Follows p (Eq a b (x -ℤ y)) = eq_as p (chained (eq_as p d refl (same_node least other s) refl) (turned e)) refl refl (omega (arith, ints)) in
      (eq_as p g refl refl (sym h), λ c f. offset_once a b c dist.by f (eq_as p g refl refl (sym h)))

  pub follows_of : (f : Atom) → Derived p f → Follows p f
  follows_of f (inl d) = d
  follows_of f (inr d) = absurd (nf d)

pub says : (b : Bool) (X : Type 0) → (IsTrue b ↔ X) → b ≡ true → X
says true X h e = h.0 (search rules)
says false X h e = cc

pub denies : (b : Bool) (X : Type 0) → (IsTrue b ↔ X) → b ≡ false → X → ⊥
denies true X h e x = cc
denies false X h e x = no (h.1 x)
  where
    no : IsTrue false → ⊥
    no t = search rules
