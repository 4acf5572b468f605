-- What holds of each of a list.
use Rattle.std.proofs.Common.{List, [], ◌∷◌, map}
use Rattle.std.specs.List.{AllByRecursion}

module _ {X : Type 0} where
  -- what holds of every image holds of the list of images
  pub all_images : {Y : Type 0} (P : X → Type 0) (f : Y → X) → ((y : Y) → P (f y)) → (ys : List Y) → AllByRecursion P (map f ys)
  all_images P f h [] = tt
  all_images P f h (y ∷ ys) = (h y, all_images P f h ys)
