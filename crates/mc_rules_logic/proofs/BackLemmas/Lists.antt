-- Lists: what holds of each, and where images stand.
use Rattle.std.proofs.Common.{◌≡◌, ℕ, zero, suc, List, [], ◌∷◌, ◌++◌, Some, map, take, drop, remove, slice_get, refl, ap}
use Rattle.std.specs.List.{flat_map, AllByRecursion}
use Rattle.mc_flow.specs.Heap.Heap.{Region}
use Rattle.mc_flow.specs.Heap.Parts.{IsEmpty, Star, StarAt}
use Rattle.mc_flow.specs.Heap.PartLaws.{SplitDropsEmpty}
use Rattle.std.proofs.Common.{sym, subst}
use Rattle.mc_state.proofs.Lists.{all_append}

module _ {X : Type 0} where
  pub all_take : (P : X → Type 0) (n : ℕ) (xs : List X) → AllByRecursion P xs → AllByRecursion P (take n xs)
  all_take P zero xs a = tt
  all_take P (suc n) [] a = tt
  all_take P (suc n) (x ∷ xs) a = (a.0, all_take P n xs a.1)

  pub all_drop : (P : X → Type 0) (n : ℕ) (xs : List X) → AllByRecursion P xs → AllByRecursion P (drop n xs)
  all_drop P zero xs a = a
  all_drop P (suc n) [] a = tt
  all_drop P (suc n) (x ∷ xs) a = all_drop P n xs a.1

  pub all_remove : (P : X → Type 0) (i : ℕ) (xs : List X) → AllByRecursion P xs → AllByRecursion P (remove xs i)
  all_remove P i xs a = all_append P (take i xs) (drop (suc i) xs) (all_take P i xs a) (all_drop P (suc i) xs a)

  pub one_of_all : (P : X → Type 0) (xs : List X) (i : ℕ) (x : X) → slice_get xs i ≡ Some x → AllByRecursion P xs → P x
  one_of_all P [] i x e a = cc
  one_of_all P (y ∷ xs) zero x e a = let same : y ≡ x = cc in subst P same a.0
  one_of_all P (y ∷ xs) (suc i) x e a = one_of_all P xs i x e a.1

  in_front : (xs ys : List X) (place : ℕ) (x : X) → slice_get xs place ≡ Some x → slice_get (xs ++ ys) place ≡ Some x
  in_front [] ys place x e = cc
  in_front (y ∷ xs) ys zero x e = e
  in_front (y ∷ xs) ys (suc place) x e = in_front xs ys place x e

  behind : (xs ys : List X) (place : ℕ) (x : X) → slice_get ys place ≡ Some x → (further : ℕ) × (slice_get (xs ++ ys) further ≡ Some x)
  behind [] ys place x e = (place, e)
  behind (y ∷ xs) ys place x e = let more = behind xs ys place x e in (suc more.0, more.1)

module _ {X Y : Type 0} where
  pub image_at : (f : X → Y) (xs : List X) (place : ℕ) (x : X) → slice_get xs place ≡ Some x → slice_get (map f xs) place ≡ Some (f x)
  image_at f [] place x e = cc
  image_at f (y ∷ xs) zero x e = let same : y ≡ x = cc in ap (λ z. Some (f z)) same
  image_at f (y ∷ xs) (suc place) x e = image_at f xs place x e

  -- what one piece has, all the pieces have
  pub in_pieces : (f : X → List Y) (xs : List X) (place : ℕ) (x : X) (inner : ℕ) (y : Y) → slice_get xs place ≡ Some x → slice_get (f x) inner ≡ Some y → (all : ℕ) × (slice_get (flat_map f xs) all ≡ Some y)
  in_pieces f [] place x inner y e h = cc
  in_pieces f (z ∷ xs) zero x inner y e h =
      let same : z ≡ x = cc in (inner, in_front (f z) (flat_map f xs) inner y (rw same h))
  in_pieces f (z ∷ xs) (suc place) x inner y e h =
      let more = in_pieces f xs place x inner y e h in behind (f z) (flat_map f xs) more.0 y more.1

  -- what holds of the pieces of each, at its place, holds of all of them
  pub all_pieces : (P : Y → Type 0) (f : X → List Y) (xs : List X) → ((i : ℕ) (x : X) → slice_get xs i ≡ Some x → AllByRecursion P (f x)) → AllByRecursion P (flat_map f xs)
  all_pieces P f [] h = tt
  all_pieces P f (x ∷ xs) h = all_append P (f x) (flat_map f xs) (h 0 x refl) (all_pieces P f xs (λ i y e. h (suc i) y e))

  -- what holds of the image of each holds of the list of images
  pub all_images : (P : Y → Type 0) (Q : X → Type 0) (f : X → Y) → ((x : X) → Q x → P (f x)) → (xs : List X) → AllByRecursion Q xs → AllByRecursion P (map f xs)
  all_images P Q f h [] a = tt
  all_images P Q f h (x ∷ xs) a = (h x a.0, all_images P Q f h xs a.1)

module _ {A : Type 0} (M S : A → Region → Type 0) where
  -- the thing at the place is there, and has its meaning somewhere
  pub star_at_get : (i : ℕ) (xs : List A) (h : Region) → StarAt M S i xs h → (x : A) × (g : Region) × (slice_get xs i ≡ Some x) × S x g
  star_at_get i [] h s = absurd s
  star_at_get zero (x ∷ xs) h s = (x, s.0, refl, s.3)
  star_at_get (suc i) (x ∷ xs) h s = star_at_get i xs s.1 s.4

  -- where it has nothing, the others have all
  pub star_without : SplitDropsEmpty → ((x : A) (g : Region) → S x g → IsEmpty g) → (i : ℕ) (xs : List A) (h : Region) → StarAt M S i xs h → Star M (remove xs i) h
  star_without drops none i [] h s = absurd s
  star_without drops none zero (x ∷ xs) h s =
      let same : h ≡ s.1 = drops h s.0 s.1 (none x s.0 s.3) s.2 in
      subst (Star M xs) (sym same) s.4
  star_without drops none (suc i) (x ∷ xs) h s = (s.0, s.1, s.2, s.3, star_without drops none i xs s.1 s.4)
