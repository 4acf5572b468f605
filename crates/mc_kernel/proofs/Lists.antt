-- What holds of each of a list, and what a list contains.
use Rattle.std.proofs.Common.{suc, List, [], ◌∷◌, map, refl, arith}
use Rattle.std.specs.Prelude.{Contains, flat_map}
use Rattle.std.specs.List.{AllByRecursion}
use Rattle.mc_state.proofs.Lists.{all_append}

module _ {X : Type 0} where
  pub contains_here : (x : X) (xs : List X) → Contains (x ∷ xs) x
  contains_here x xs = (0, omega arith, refl)

  pub contains_later : (x y : X) (ys : List X) → Contains ys x → Contains (y ∷ ys) x
  contains_later x y ys c = let below = c.1 in (suc c.0, omega arith, c.2)

  pub contains_none : (x : X) → Contains [] x → ⊥
  contains_none x c = let below = c.1 in omega arith

module _ {X Y : Type 0} (P : Y → Type 0) where
  -- what holds of the images of all
  pub all_of_map : (f : X → Y) (xs : List X) → AllByRecursion (λ x. P (f x)) xs → AllByRecursion P (map f xs)
  all_of_map f [] a = tt
  all_of_map f (x ∷ xs) a = (a.0, all_of_map f xs a.1)

  -- what holds of each image
  pub each_of_map : (f : X → Y) → ((x : X) → P (f x)) → (xs : List X) → AllByRecursion P (map f xs)
  each_of_map f each [] = tt
  each_of_map f each (x ∷ xs) = (each x, each_of_map f each xs)

  pub each_of_flat_map : (f : X → List Y) → ((x : X) → AllByRecursion P (f x)) → (xs : List X) → AllByRecursion P (flat_map f xs)
  each_of_flat_map f each [] = tt
  each_of_flat_map f each (x ∷ xs) = all_append P (f x) (flat_map f xs) (each x) (each_of_flat_map f each xs)
