-- What is decided: it holds, or does not.
use Rattle.std.proofs.Common.{◌≡◌, ◌↔◌, ◌⊎◌, inl, inr, ℕ, zero, suc, ◌<◌, ℤ, ◌≤ℤ◌, Bool, true, false, List, [], ◌∷◌, Some, slice_get, refl, subst, arith}
use Rattle.std.proofs.lemmas.Int.{ints}
use Rattle.std.specs.List.{AllByRecursion}

-- it holds, or does not
abbrev pub Or : Type 0 → Type 0
Or P = P ⊎ (P → ⊥)

pub as_or : {P Q : Type 0} → (P → Q) → (Q → P) → Or P → Or Q
as_or to from (inl p) = inl (to p)
as_or to from (inr never) = inr (λ q. never (from q))

pub and_or : {P Q : Type 0} → Or P → Or Q → Or (P × Q)
and_or (inr never) q = inr (λ k. never k.0)
and_or (inl p) (inr never) = inr (λ k. never k.1)
and_or (inl p) (inl q) = inl (p, q)

pub all_three_or : {P Q R : Type 0} → Or P → Or Q → Or R → Or (P × Q × R)
all_three_or (inr never) q r = inr (λ k. never k.0)
all_three_or (inl p) (inr never) r = inr (λ k. never k.1)
all_three_or (inl p) (inl q) (inr never) = inr (λ k. never k.2)
all_three_or (inl p) (inl q) (inl r) = inl (p, q, r)

pub either_or : {P Q : Type 0} → Or P → Or Q → Or (P ⊎ Q)
either_or (inl p) q = inl (inl p)
either_or (inr never) (inl q) = inl (inr q)
either_or (inr never) (inr none) = inr (λ k. elim k [ inl p ↦ never p | inr q ↦ none q ])

-- each of a list has it, or one has not
pub all_or : {X : Type 0} (P : X → Type 0) → ((x : X) → Or (P x)) → (xs : List X) → Or (AllByRecursion P xs)
all_or P each [] = inl tt
all_or P each (x ∷ xs) = and_or (each x) (all_or P each xs)

-- the one at a place has it
pub all_get : {X : Type 0} (P : X → Type 0) (xs : List X) → AllByRecursion P xs → (i : ℕ) (x : X) → slice_get xs i ≡ Some x → P x
all_get {X} P [] all i x e = cc
all_get {X} P (y ∷ ys) all zero x e = subst P (same e) all.0
  where
    same : Some y ≡ Some x → y ≡ x
    same e = cc
all_get {X} P (y ∷ ys) all (suc i) x e = all_get P ys all.1 i x e

pub all_put : {X : Type 0} (P : X → Type 0) (xs : List X) → ((i : ℕ) (x : X) → slice_get xs i ≡ Some x → P x) → AllByRecursion P xs
all_put P [] f = tt
all_put P (x ∷ xs) f = (f 0 x refl, all_put P xs (λ i y e. f (suc i) y e))

-- as a test
pub holds : {P : Type 0} → Or P → Bool
holds (inl p) = true
holds (inr never) = false

pub holds_tells : {P : Type 0} (o : Or P) → (holds o ≡ true) ↔ P
unfolding holds
holds_tells (inl p) = ((λ e. p), (λ p. refl))
holds_tells (inr never) = ((λ e. let two : false ≡ true = e in cc), (λ p. absurd (never p)))

pub less_or : (m n : ℕ) → Or (m < n)
less_or m n = grind arith

pub same_or : (m n : ℕ) → Or (m ≡ n)
same_or m n = grind arith

pub at_most_or : (a b : ℤ) → Or (a ≤ℤ b)
at_most_or a b = grind (arith, ints)
