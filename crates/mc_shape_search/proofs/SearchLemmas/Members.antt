-- Elements of lists that are made of others.
use Rattle.std.proofs.Common.{◌≡◌, List, [], ◌∷◌, ◌++◌, ◌⊎◌, inl, inr, Bool, true, false, map, refl, sym, ◌∙◌, ap}
use Rattle.std.specs.List.{filter, flat_map}
use Rattle.mc_shape_search.specs.Search.Met.{IsIn}

pub in_left : {X : Type 0} (x : X) (xs ys : List X) → IsIn x xs → IsIn x (xs ++ ys)
in_left x [] ys h = elim h [ ]
in_left x (y ∷ xs) ys (inl e) = inl e
in_left x (y ∷ xs) ys (inr h) = inr (in_left x xs ys h)

pub in_right : {X : Type 0} (x : X) (xs ys : List X) → IsIn x ys → IsIn x (xs ++ ys)
in_right x [] ys h = h
in_right x (y ∷ xs) ys h = inr (in_right x xs ys h)

pub in_append : {X : Type 0} (x : X) (xs ys : List X) → IsIn x (xs ++ ys) → IsIn x xs ⊎ IsIn x ys
in_append x [] ys h = inr h
in_append x (y ∷ xs) ys (inl e) = inl (inl e)
in_append x (y ∷ xs) ys (inr h) = elim (in_append x xs ys h) [ inl a ↦ inl (inr a) | inr b ↦ inr b ]

pub in_map : {X Y : Type 0} (f : X → Y) (x : X) (xs : List X) → IsIn x xs → IsIn (f x) (map f xs)
in_map f x [] h = elim h [ ]
in_map f x (y ∷ xs) (inl e) = inl (ap f e)
in_map f x (y ∷ xs) (inr h) = inr (in_map f x xs h)

pub in_flat_map : {X Y : Type 0} (f : X → List Y) (x : X) (xs : List X) (y : Y) → IsIn x xs → IsIn y (f x) → IsIn y (flat_map f xs)
in_flat_map f x [] y i h = elim i [ ]
in_flat_map f x (z ∷ xs) y (inl e) h = in_left y (f z) (flat_map f xs) (rw e at h)
in_flat_map f x (z ∷ xs) y (inr i) h = in_right y (f z) (flat_map f xs) (in_flat_map f x xs y i h)

pub from_flat_map : {X Y : Type 0} (f : X → List Y) (xs : List X) (y : Y) → IsIn y (flat_map f xs) → (x : X) × IsIn x xs × IsIn y (f x)
from_flat_map f [] y h = elim h [ ]
from_flat_map f (x ∷ xs) y h =
    elim (in_append y (f x) (flat_map f xs) h) [
      | inl a ↦ (x, inl refl, a)
      | inr b ↦ (let r = from_flat_map f xs y b in (r.0, inr r.1, r.2))
    ]

pub bool_cases : (b : Bool) → (b ≡ true) ⊎ (b ≡ false)
bool_cases true = inl refl
bool_cases false = inr refl

pub filter_yes : {X : Type 0} (p : X → Bool) (x : X) (xs : List X) → p x ≡ true → filter p (x ∷ xs) ≡ x ∷ filter p xs
filter_yes p x xs t = rw (t, filter)

pub filter_no : {X : Type 0} (p : X → Bool) (x : X) (xs : List X) → p x ≡ false → filter p (x ∷ xs) ≡ filter p xs
filter_no p x xs t = rw (t, filter)

pub in_filter : {X : Type 0} (p : X → Bool) (x : X) (xs : List X) → IsIn x xs → p x ≡ true → IsIn x (filter p xs)
in_filter p x [] h t = elim h [ ]
in_filter p x (y ∷ xs) (inl e) t = rw (filter_yes p y xs (ap p (sym e) ∙ t)) (inl e)
in_filter p x (y ∷ xs) (inr h) t =
    elim (bool_cases (p y)) [
      | inl u ↦ rw (filter_yes p y xs u) (inr (in_filter p x xs h t))
      | inr u ↦ rw (filter_no p y xs u) (in_filter p x xs h t)
    ]

pub from_filter : {X : Type 0} (p : X → Bool) (x : X) (xs : List X) → IsIn x (filter p xs) → IsIn x xs × (p x ≡ true)
from_filter p x [] h = elim h [ ]
from_filter p x (y ∷ xs) h =
    elim (bool_cases (p y)) [
      | inl u ↦ (let i = rw (filter_yes p y xs u) at h in elim i [ inl e ↦ (inl e, ap p e ∙ u) | inr k ↦ (let r = from_filter p x xs k in (inr r.0, r.1)) ])
      | inr u ↦ (let i = rw (filter_no p y xs u) at h in let r = from_filter p x xs i in (inr r.0, r.1))
    ]
