-- What holds of each of a list.
use Rattle.std.proofs.Common.{◌≡◌, ◌<◌, ◌≤◌, ◌+◌, ℕ, zero, suc, List, [], ◌∷◌, ◌++◌, map, Some, slice_get, get_or, length, refl, sym, subst}
use Rattle.std.specs.List.{AllByRecursion}
use Rattle.std.proofs.lemmas.Option.{slice_get-get_or}
use Rattle.mc_pure.proofs.Looping.{all, more}

module _ {X : Type 0} where
  pub all_append : (P : X → Type 0) (xs ys : List X) → AllByRecursion P xs → AllByRecursion P ys → AllByRecursion P (xs ++ ys)
  all_append P [] ys a b = b
  all_append P (x ∷ xs) ys a b = (a.0, all_append P xs ys a.1 b)

  pub all_left : (P : X → Type 0) (xs ys : List X) → AllByRecursion P (xs ++ ys) → AllByRecursion P xs
  all_left P [] ys a = tt
  all_left P (x ∷ xs) ys a = (a.0, all_left P xs ys a.1)

  pub all_right : (P : X → Type 0) (xs ys : List X) → AllByRecursion P (xs ++ ys) → AllByRecursion P ys
  all_right P [] ys a = a
  all_right P (x ∷ xs) ys a = all_right P xs ys a.1

  pub all_map : (P Q : X → Type 0) → ((x : X) → P x → Q x) → (xs : List X) → AllByRecursion P xs → AllByRecursion Q xs
  all_map P Q f [] a = tt
  all_map P Q f (x ∷ xs) a = (f x a.0, all_map P Q f xs a.1)

  pub all_both : (P Q R : X → Type 0) → ((x : X) → P x → Q x → R x) → (xs : List X) → AllByRecursion P xs → AllByRecursion Q xs → AllByRecursion R xs
  all_both P Q R f [] a b = tt
  all_both P Q R f (x ∷ xs) a b = (f x a.0 b.0, all_both P Q R f xs a.1 b.1)

  pub all_at : (P : X → Type 0) (xs : List X) (place : ℕ) (x : X) → slice_get xs place ≡ Some x → AllByRecursion P xs → P x
  all_at P [] place x e a = cc
  all_at P (y ∷ ys) zero x e a = let same : y ≡ x = cc in subst P same a.0
  all_at P (y ∷ ys) (suc place) x e a = all_at P ys place x e a.1

  -- where each has it that stands somewhere, all have it
  pub all_places : (P : X → Type 0) (xs : List X) → ((place : ℕ) (x : X) → slice_get xs place ≡ Some x → P x) → AllByRecursion P xs
  all_places P [] f = tt
  all_places P (x ∷ xs) f = (f 0 x refl, all_places P xs (λ place y e. f (suc place) y e))

-- what holds of the images of all
pub all_of_map : {X Y : Type 0} (P : Y → Type 0) (f : X → Y) (xs : List X) → AllByRecursion (λ x. P (f x)) xs → AllByRecursion P (map f xs)
all_of_map P f [] a = tt
all_of_map P f (x ∷ xs) a = (a.0, all_of_map P f xs a.1)

pub map_of_all : {X Y : Type 0} (P : Y → Type 0) (f : X → Y) (xs : List X) → AllByRecursion P (map f xs) → AllByRecursion (λ x. P (f x)) xs
map_of_all P f [] a = tt
map_of_all P f (x ∷ xs) a = (a.0, map_of_all P f xs a.1)

-- ---- what holds of each item of a list, as a loop over an equal list finds

module _ {X : Type 0} (P : X → Type 0) (ys xs : List X) (same : ys ≡ xs) where
  there : (k : ℕ) (x : X) → slice_get ys k ≡ Some x → slice_get xs k ≡ Some x
  there k x e = subst (λ (z : List X). slice_get z k ≡ Some x) same e

  back : (k : ℕ) (x : X) → slice_get xs k ≡ Some x → slice_get ys k ≡ Some x
  back k x e = subst (λ (z : List X). slice_get z k ≡ Some x) (sym same) e

  pub each_here : (i : ℕ) (d : X) → i < length ys → ((k : ℕ) (x : X) → slice_get xs k ≡ Some x → P x) → P (get_or ys i d)
  each_here i d l each = each i (get_or ys i d) (there i (get_or ys i d) (slice_get-get_or ys i d l))

  pub each_more : (i : ℕ) (d : X) → i < length ys → ((k : ℕ) → k < i → (x : X) → slice_get xs k ≡ Some x → P x) → P (get_or ys i d) → (k : ℕ) → k < i + 1 → (x : X) → slice_get xs k ≡ Some x → P x
  each_more i d l before here k less x e = more ys P i d l (λ k x less e. before k less x (there k x e)) here k x less (back k x e)

  pub each_all : (i : ℕ) → length ys ≤ i → ((k : ℕ) → k < i → (x : X) → slice_get xs k ≡ Some x → P x) → (k : ℕ) (x : X) → slice_get xs k ≡ Some x → P x
  each_all i past before k x e = all ys P i past (λ k x less e. before k less x (there k x e)) k x (back k x e)
