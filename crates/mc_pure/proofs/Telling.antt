-- What holds in rows is known: over the written atoms and the pairs of starts.
use Rattle.std.proofs.Common.{◌≡◌, ◌≢◌, ◌⊎◌, ◌↔◌, ℕ, zero, suc, ℤ, pos, ◌+ℤ◌, neg_ℤ, ◌≤ℤ◌, ◌<ℤ◌, List, [], ◌∷◌, Option, Some, None, Bool, true, false, slice_get, refl, sym, ◌∙◌, subst, inl, inr, arith}
use Rattle.std.proofs.lemmas.Int.{ints}
use Rattle.mc_base.specs.declared.ids.NodeId.{NodeId}
use Rattle.mc_base.specs.declared.plain.Kind.{Kind}
use Rattle.mc_base.specs.declared.plain.Kind.TheVariants.{Int}
use Rattle.mc_base.specs.declared.plain.Atom.{Atom}
use Rattle.mc_base.specs.declared.plain.Atom.TheVariants.{Eq, Ne, In}
use Rattle.mc_base.specs.Nodes.{null}
use Rattle.mc_pure.specs.declared.rows.Row.{Row}
use Rattle.mc_pure.specs.Pure as begin
use Rattle.mc_pure.specs.Pure.{Pure, Kinds, IsNode, Base, kind_of, written, kind, block, apart}
use Rattle.mc_pure.specs.Derived.{Derived}
use Rattle.mc_pure.specs.Normal.{low, high, Moved, Listed, Apart, Holds}
use Rattle.mc_pure.specs.Rows.{view}
use Rattle.mc_pure.proofs.Changing.{decide}
use Rattle.mc_pure.proofs.Closing.{less_or, same_or, places, Closes}
use Rattle.mc_pure.proofs.Deciding.{follows, holds, consistent}

abbrev pub Told : Type 0 → Type 0
Told P = P ⊎ (P → ⊥)

told_both : (P Q : Type 0) → Told P → Told Q → Told (P × Q)
told_both P Q (inl x) (inl y) = inl (x, y)
told_both P Q (inl x) (inr y) = inr (λ k. y k.1)
told_both P Q (inr x) t = inr (λ k. x k.0)

told_three : (P Q R : Type 0) → Told P → Told Q → Told R → Told (P × Q × R)
told_three P Q R (inl x) (inl y) (inl z) = inl (x, y, z)
told_three P Q R (inl x) (inl y) (inr z) = inr (λ k. z k.2)
told_three P Q R (inl x) (inr y) t = inr (λ k. y k.1)
told_three P Q R (inr x) t u = inr (λ k. x k.0)

told_four : (P Q R S : Type 0) → Told P → Told Q → Told R → Told S → Told (P × Q × R × S)
told_four P Q R S (inl x) (inl y) (inl z) (inl w) = inl (x, y, z, w)
told_four P Q R S (inl x) (inl y) (inl z) (inr w) = inr (λ k. w k.3)
told_four P Q R S (inl x) (inl y) (inr z) t = inr (λ k. z k.2)
told_four P Q R S (inl x) (inr y) t u = inr (λ k. y k.1)
told_four P Q R S (inr x) t u v = inr (λ k. x k.0)

told_one : (P Q : Type 0) → Told P → Told Q → Told (P ⊎ Q)
told_one P Q (inl x) t = inl (inl x)
told_one P Q (inr x) (inl y) = inl (inr y)
told_one P Q (inr x) (inr y) = inr (λ k. elim k [ inl a ↦ x a | inr b ↦ y b ])

told_as : (P Q : Type 0) → (P → Q) → (Q → P) → Told P → Told Q
told_as P Q f g (inl x) = inl (f x)
told_as P Q f g (inr x) = inr (λ k. x (g k))

told_less : (a b : ℤ) → Told (a <ℤ b)
told_less a b = elim (less_or a b) [ inl x ↦ inl x | inr x ↦ inr (λ k. absurd (omega (arith, ints, x, k))) ]

told_most : (a b : ℤ) → Told (a ≤ℤ b)
told_most a b = elim (less_or b a) [ inl x ↦ inr (λ k. absurd (omega (arith, ints, x, k))) | inr x ↦ inl x ]

-- whether a node is there
by_kind : (kinds : Kinds) (n : NodeId) → n ≢ null → (o : Option Kind) → kind_of kinds n ≡ o → Told (IsNode kinds n)
by_kind kinds n ne (Some k) e = inl (k, inr e)
by_kind kinds n ne None e = inr (λ x. elim x.1 [ inl y ↦ ne y | inr y ↦ none_some x.0 (sym e ∙ y) ])
  where
    none_some : (k : Kind) → None ≡ Some k → ⊥
    none_some k e = cc

node_told : (kinds : Kinds) (n : NodeId) → Told (IsNode kinds n)
node_told kinds n = elim (decide n null) [
  | inl e ↦ inl (Int, inl e)
  | inr ne ↦ by_kind kinds n ne (kind_of kinds n) refl
]

-- whether an element of a list, by its place, is such
any_step : {X : Type 0} (x : X) (xs : List X) (P : ℕ → X → Type 0) → Told (P 0 x) → Told ((i : ℕ) × (y : X) × (slice_get xs i ≡ Some y) × P (suc i) y) → Told ((i : ℕ) × (y : X) × (slice_get (x ∷ xs) i ≡ Some y) × P i y)
any_step x xs P (inl a) t = inl (0, x, refl, a)
any_step x xs P (inr a) (inl b) = inl (suc b.0, b.1, b.2, b.3)
any_step {X} x xs P (inr a) (inr b) = inr (λ k. none k.0 k.1 k.2 k.3)
  where
    none : (i : ℕ) (y : X) → slice_get (x ∷ xs) i ≡ Some y → P i y → ⊥
    none zero y e k = let same : y ≡ x = cc in a (subst (P 0) same k)
    none (suc i) y e k = b (i, y, e, k)

any_none : {X : Type 0} (P : ℕ → X → Type 0) (i : ℕ) (y : X) → slice_get [] i ≡ Some y → ⊥
any_none {X} P i y e = none i e
  where
    none : (i : ℕ) → (let xs : List X = [] in slice_get xs i ≡ Some y) → ⊥
    none i e = cc

any : {X : Type 0} (xs : List X) (P : ℕ → X → Type 0) → ((i : ℕ) (x : X) → Told (P i x)) → Told ((i : ℕ) × (x : X) × (slice_get xs i ≡ Some x) × P i x)
any [] P h = inr (λ k. any_none P k.0 k.1 k.2)
any (x ∷ xs) P h = any_step x xs P (h 0 x) (any xs (λ i y. P (suc i) y) (λ i y. h (suc i) y))

module _ (p : Pure) (nf : NodeId → Row) where
  moved_told : (x y : NodeId) (d : ℤ) (a b : NodeId) (c : ℤ) → Told (Moved nf x y d a b c)
  moved_told x y d a b c =
      let By : Type 0 = c +ℤ ((nf b).off +ℤ (nf x).off) ≡ d +ℤ ((nf y).off +ℤ (nf a).off) in
      let Right : Type 0 = (nf y).rep ≡ (nf b).rep in
      let Left : Type 0 = (nf x).rep ≡ (nf a).rep in
      told_as (Left × Right × By) (Moved nf x y d a b c) (λ k. record { left = k.0; right = k.1; by = k.2 }) (λ m. (m.left, m.right, m.by)) (told_three Left Right By (decide (nf x).rep (nf a).rep) (decide (nf y).rep (nf b).rep) (same_or _ _))

  -- a disequality that, moved along, is this one
  abbrev Gives : (a b : NodeId) (c : ℤ) → Atom → Type 0
  Gives a b c (Ne x y d) = Moved nf x y d a b c
  Gives a b c (Eq x y d) = ⊥
  Gives a b c (In x l h) = ⊥

  gives_told : (a b : NodeId) (c : ℤ) (f : Atom) → Told (Gives a b c f)
  gives_told a b c (Ne x y d) = moved_told x y d a b c
  gives_told a b c (Eq x y d) = inr (λ k. k)
  gives_told a b c (In x l h) = inr (λ k. k)

  abbrev ByWritten : (a b : NodeId) (c : ℤ) → Type 0
  ByWritten a b c = (i : ℕ) × (f : Atom) × (slice_get p.written i ≡ Some f) × Gives a b c f

  abbrev Second : (a b : NodeId) (c : ℤ) → ℕ → NodeId → Type 0
  Second a b c i x = (j : ℕ) × (y : NodeId) × (slice_get p.starts j ≡ Some y) × ((i ≢ j) × Moved nf x y (pos 0) a b c)

  abbrev ByStarts : (a b : NodeId) (c : ℤ) → Type 0
  ByStarts a b c = (i : ℕ) × (x : NodeId) × (slice_get p.starts i ≡ Some x) × Second a b c i x

  other : (i j : ℕ) → Told (i ≢ j)
  other i j = elim (places i j) [ inl e ↦ inr (λ k. k e) | inr ne ↦ inl ne ]

  starts_told : (a b : NodeId) (c : ℤ) → Told (ByStarts a b c)
  starts_told a b c = any p.starts (Second a b c) (λ i x. any p.starts (λ j y. (i ≢ j) × Moved nf x y (pos 0) a b c) (λ j y. told_both (i ≢ j) (Moved nf x y (pos 0) a b c) (other i j) (moved_told x y (pos 0) a b c)))

  to_listed : (a b : NodeId) (c : ℤ) → ByWritten a b c ⊎ ByStarts a b c → Listed p nf a b c
  to_listed a b c (inl k) = from k.0 k.1 k.2 k.3
    where
      from : (i : ℕ) (f : Atom) → slice_get p.written i ≡ Some f → Gives a b c f → Listed p nf a b c
      from i (Ne x y d) e m = (x, y, d, written i e, m)
      from i (Eq x y d) e m = absurd m
      from i (In x l h) e m = absurd m
  to_listed a b c (inr k) = (k.1, k.3.1, pos 0, apart k.0 k.3.0 k.3.3.0 k.2 k.3.2, k.3.3.1)

  from_base : (a b : NodeId) (c : ℤ) (f : Atom) → Base p f → Gives a b c f → ByWritten a b c ⊎ ByStarts a b c
  from_base a b c f (written place e) k = inl (place, f, e, k)
  from_base a b c _ begin.zero k = absurd k
  from_base a b c _ (kind place e) k = absurd k
  from_base a b c _ (block place e) k = absurd k
  from_base u v w _ (apart {a} {b} i j ne x y) k = inr (i, a, x, (j, b, y, (ne, k)))

  listed_told : (a b : NodeId) (c : ℤ) → Told (Listed p nf a b c)
  listed_told a b c = told_as (ByWritten a b c ⊎ ByStarts a b c) (Listed p nf a b c) (to_listed a b c) (λ l. from_base a b c (Ne l.0 l.1 l.2) l.3 l.4) (told_one (ByWritten a b c) (ByStarts a b c) (any p.written (λ i f. Gives a b c f) (λ i f. gives_told a b c f)) (starts_told a b c))

  apart_told : (r s : Row) (c : ℤ) → Told (Apart r s c)
  apart_told r s c = told_one (high r <ℤ (low s +ℤ c)) ((high s +ℤ c) <ℤ low r) (told_less _ _) (told_less _ _)

  pub holds_told : (f : Atom) → Told (Holds p nf f)
  holds_told (Eq a b c) = told_four (IsNode p.kinds a) (IsNode p.kinds b) ((nf a).rep ≡ (nf b).rep) ((nf a).off ≡ (nf b).off +ℤ c) (node_told p.kinds a) (node_told p.kinds b) (decide (nf a).rep (nf b).rep) (same_or (nf a).off ((nf b).off +ℤ c))
  holds_told (In a l h) = told_three (IsNode p.kinds a) (l ≤ℤ low (nf a)) (high (nf a) ≤ℤ h) (node_told p.kinds a) (told_most l (low (nf a))) (told_most (high (nf a)) h)
  holds_told (Ne a b c) =
      let Near : Type 0 = Listed p nf a b c in
      let Turned : Type 0 = Listed p nf b a (neg_ℤ c) in
      let Far : Type 0 = Apart (nf a) (nf b) c in
      let listed = told_one Near Turned (listed_told a b c) (listed_told b a (neg_ℤ c)) in
      told_three (IsNode p.kinds a) (IsNode p.kinds b) (Far ⊎ (Near ⊎ Turned)) (node_told p.kinds a) (node_told p.kinds b) (told_one Far (Near ⊎ Turned) (apart_told (nf a) (nf b) c) listed)

-- the answer
abbrev flag : {P : Type 0} → Told P → Bool
flag (inl x) = true
flag (inr x) = false

flag_is : {P : Type 0} (t : Told P) → (flag t ≡ true) ↔ P
flag_is (inl x) = ((λ _. x), (λ _. refl))
flag_is (inr x) = ((λ e. cc), (λ k. absurd (x k)))

derived_told : (p : Pure) → Closes p → (f : Atom) → Told (Derived p f)
derived_told p (inl k) f = inl (inr k)
derived_told p (inr k) f =
    told_as (Holds p (view k.0) f) (Derived p f) (λ h. inl (follows p k.0 f k.1 k.2 h)) (λ d. elim d [ inl x ↦ holds p k.0 f k.1 k.2 x | inr x ↦ absurd (consistent p k.0 k.1 k.2 x) ]) (holds_told p (view k.0) f)

pub decided : (p : Pure) → Closes p → (know : Atom → Bool) × ((f : Atom) → (know f ≡ true) ↔ Derived p f)
decided p k = ((λ f. flag (derived_told p k f)), (λ f. flag_is (derived_told p k f)))
