-- What is entailed does not depend on the order of the nodes at which blocks start.
use Rattle.std.proofs.Common.{◌≡◌, ◌≢◌, ◌↔◌, ◌<◌, ℕ, ℤ, zero, suc, inl, inr, List, [], ◌∷◌, Bool, true, false, IsTrue, Some, slice_get, refl, sym, ap, subst, ◌∙◌, arith}
use Rattle.std.specs.Prelude.{◌==◌, if◌then◌else◌}
use Rattle.std.proofs.lemmas.Bool.Decides.{nat_tests}
use Rattle.mc_base.specs.declared.ids.NodeId.{NodeId}
use Rattle.mc_base.specs.declared.plain.Atom.{Atom}
use Rattle.mc_base.specs.declared.plain.Atom.TheVariants.{In}
use Rattle.mc_pure.specs.Pure as begin
use Rattle.mc_pure.specs.Pure.{Pure, Kinds, Base, written, kind, block, apart}
use Rattle.mc_pure.specs.Derived.{Follows, IsFalse, Derived, HasRange, base}
use Rattle.mc_pure.specs.Laws.{FollowsFromMore, FalseFromMore}
use Rattle.mc_symbolic.specs.Starts.{how_many, HaveSameNodes}

some_node : (x y : NodeId) → Some x ≡ Some y → x ≡ y
some_node x y e = cc

-- a node that meets a test is counted
counted : (test : NodeId → Bool) (xs : List NodeId) (i : ℕ) (a : NodeId) → slice_get xs i ≡ Some a → test a ≡ true → 0 < how_many test xs
counted test [] i a e t = cc
counted test (x ∷ xs) zero a e t =
    let m : test x ≡ true = ap test (some_node x a e) ∙ t in
    rw m (omega arith)
counted test (x ∷ xs) (suc i) a e t = at (counted test xs i a e t) (test x)
  where
    at : 0 < how_many test xs → (b : Bool) → 0 < (if b then suc (how_many test xs) else how_many test xs)
    at h true = omega arith
    at h false = h

counted_twice : (test : NodeId → Bool) (xs : List NodeId) (i j : ℕ) (a b : NodeId) → i ≢ j → slice_get xs i ≡ Some a → slice_get xs j ≡ Some b → test a ≡ true → test b ≡ true → 1 < how_many test xs
counted_twice test [] i j a b ne e f t u = cc
counted_twice test (x ∷ xs) zero zero a b ne e f t u = absurd (ne refl)
counted_twice test (x ∷ xs) zero (suc j) a b ne e f t u =
    let m : test x ≡ true = ap test (some_node x a e) ∙ t in
    let h = counted test xs j b f u in
    rw m (omega arith)
counted_twice test (x ∷ xs) (suc i) zero a b ne e f t u =
    let m : test x ≡ true = ap test (some_node x b f) ∙ u in
    let h = counted test xs i a e t in
    rw m (omega arith)
counted_twice test (x ∷ xs) (suc i) (suc j) a b ne e f t u = at (counted_twice test xs i j a b (λ q. ne (ap suc q)) e f t u) (test x)
  where
    at : 1 < how_many test xs → (b : Bool) → 1 < (if b then suc (how_many test xs) else how_many test xs)
    at h true = omega arith
    at h false = h

-- and what is counted is there
abbrev Found : (NodeId → Bool) → List NodeId → Type 0
Found test xs = (i : ℕ) × (a : NodeId) × (slice_get xs i ≡ Some a) × (test a ≡ true)

found : (test : NodeId → Bool) (xs : List NodeId) → 0 < how_many test xs → Found test xs
found test [] l = absurd (omega arith)
found test (x ∷ xs) l = at (found test xs) (test x) refl l
  where
    at : (0 < how_many test xs → Found test xs) → (b : Bool) → test x ≡ b → 0 < (if b then suc (how_many test xs) else how_many test xs) → Found test (x ∷ xs)
    at h true e l = (0, x, refl, e)
    at h false e l = let k = h l in (suc k.0, k.1, k.2, k.3)

abbrev FoundTwice : (NodeId → Bool) → List NodeId → Type 0
FoundTwice test xs = (i j : ℕ) × (a b : NodeId) × (i ≢ j) × (slice_get xs i ≡ Some a) × (slice_get xs j ≡ Some b) × (test a ≡ true) × (test b ≡ true)

found_twice : (test : NodeId → Bool) (xs : List NodeId) → 1 < how_many test xs → FoundTwice test xs
found_twice test [] l = absurd (omega arith)
found_twice test (x ∷ xs) l = at (found_twice test xs) (test x) refl l
  where
    at : (1 < how_many test xs → FoundTwice test xs) → (b : Bool) → test x ≡ b → 1 < (if b then suc (how_many test xs) else how_many test xs) → FoundTwice test (x ∷ xs)
    at h true e l = let k = found test xs (omega arith) in (0, suc k.0, x, k.1, λ q. omega arith, refl, k.2, e, k.3)
    at h false e l = let k = h l in (suc k.0, suc k.1, k.2, k.3, λ q. k.4 (omega arith), k.5, k.6, k.7, k.8)

-- the test for one node
abbrev pub is_node : NodeId → NodeId → Bool
is_node a x = x.0 == a.0

pub is_itself : (a : NodeId) → is_node a a ≡ true
is_itself a = grind (arith, nat_tests)

pub is_that : (a x : NodeId) → is_node a x ≡ true → x ≡ a
is_that a x e = let n : x.0 ≡ a.0 = grind (arith, nat_tests) in ap (λ (z : ℕ). record { 0 = z }) n

module _ (xs ys : List NodeId) (same : HaveSameNodes xs ys) where
  pub there : (i : ℕ) (a : NodeId) → slice_get xs i ≡ Some a → (j : ℕ) × (slice_get ys j ≡ Some a)
  there i a e =
      let h = counted (is_node a) xs i a e (is_itself a) in
      let m = same (is_node a) in
      let k = found (is_node a) ys (omega arith) in
      (k.0, k.2 ∙ ap (λ (z : NodeId). Some z) (is_that a k.1 k.3))

  apart_there : (i j : ℕ) (a b : NodeId) → i ≢ j → slice_get xs i ≡ Some a → slice_get xs j ≡ Some b → (k l : ℕ) × (k ≢ l) × (slice_get ys k ≡ Some a) × (slice_get ys l ≡ Some b)
  apart_there i j a b ne e f = at (is_node a b) refl
    where
      at : (yes : Bool) → is_node a b ≡ yes → (k l : ℕ) × (k ≢ l) × (slice_get ys k ≡ Some a) × (slice_get ys l ≡ Some b)
      at true t =
          let h = counted_twice (is_node a) xs i j a b ne e f (is_itself a) t in
          let m = same (is_node a) in
          let k = found_twice (is_node a) ys (omega arith) in
          let q = is_that a b t in
          (k.0, k.1, k.4, k.5 ∙ ap (λ (z : NodeId). Some z) (is_that a k.2 k.7), k.6 ∙ ap (λ (z : NodeId). Some z) (is_that a k.3 k.8 ∙ sym q))
      at false t =
          let k = there i a e in
          let l = there j b f in
          (k.0, l.0, λ q. other (some_node a b (sym k.1 ∙ (ap (λ (z : ℕ). slice_get ys z) q ∙ l.1))), k.1, l.1)
        where
          other : a ≡ b → ⊥
          other q = let r : is_node a b ≡ true = subst (λ (z : NodeId). is_node a z ≡ true) q (is_itself a) in let w : true ≡ false = sym r ∙ t in cc w

  module _ (kinds : Kinds) (atoms : List Atom) where
    abbrev before : Pure
    before = record { kinds = kinds; written = atoms; starts = xs }

    abbrev after : Pure
    after = record { kinds = kinds; written = atoms; starts = ys }

    pub base_same : (f : Atom) → Base before f → Base after f
    base_same f (written place e) = written place e
    base_same f begin.zero = begin.zero
    base_same f (kind place e) = kind place e
    base_same f (block {a} place e) = let k = there place a e in block k.0 k.1
    base_same f (apart {a} {b} i j ne e g) = let k = apart_there i j a b ne e g in apart k.0 k.1 k.2 k.3 k.4

pub turned : (xs ys : List NodeId) → HaveSameNodes xs ys → HaveSameNodes ys xs
turned xs ys same test = sym (same test)

module _ (more : FollowsFromMore) (false_more : FalseFromMore) (kinds : Kinds) (atoms : List Atom) (xs ys : List NodeId) (same : HaveSameNodes xs ys) where
  abbrev first : Pure
  first = record { kinds = kinds; written = atoms; starts = xs }

  abbrev second : Pure
  second = record { kinds = kinds; written = atoms; starts = ys }

  pub follows_to : (f : Atom) → Follows first f → Follows second f
  follows_to = more first second (λ n h. h) (λ g b. base (base_same xs ys same kinds atoms g b))

  pub follows_from : (f : Atom) → Follows second f → Follows first f
  follows_from = more second first (λ n h. h) (λ g b. base (base_same ys xs (turned xs ys same) kinds atoms g b))

  pub false_same : IsFalse first ↔ IsFalse second
  false_same = (false_more first second (λ n h. h) (λ g b. base (base_same xs ys same kinds atoms g b)), false_more second first (λ n h. h) (λ g b. base (base_same ys xs (turned xs ys same) kinds atoms g b)))

  pub derived_same : (f : Atom) → Derived first f ↔ Derived second f
  derived_same f = ((λ d. elim d [ inl x ↦ inl (follows_to f x) | inr x ↦ inr (false_same.0 x) ]), (λ d. elim d [ inl x ↦ inl (follows_from f x) | inr x ↦ inr (false_same.1 x) ]))

  pub range_same : (n : NodeId) (lo hi : ℤ) → HasRange first n lo hi → HasRange second n lo hi
  range_same n lo hi h = record { follows = follows_to (In n lo hi) h.follows; least = λ m k d. h.least m k (follows_from (In n m k) d) }

-- what is asked, and what a test tells
pub behind : {A B C : Type 0} → (A ↔ B) → (B ↔ C) → A ↔ C
behind p q = ((λ a. q.0 (p.0 a)), (λ c. p.1 (q.1 c)))

pub told : {D : Type 0} (b c : Bool) → (IsTrue b ↔ D) → ((c ≡ true) ↔ D) → b ≡ c
told true true p q = refl
told true false p q = let w : false ≡ true = q.1 (p.0 refl) in absurd (cc w)
told false true p q = let w : false ≡ true = p.1 (q.0 refl) in absurd (cc w)
told false false p q = refl
