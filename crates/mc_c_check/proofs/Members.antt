-- Members of lists.
use Rattle.std.proofs.Common.{◌≡◌, ℕ, List, [], ◌∷◌, ◌++◌, ◌<◌, ◌⊎◌, refl, sym, arith, inl, inr, suc, zero, map, length, get_or}
use Rattle.std.specs.Prelude.{Contains}
use Rattle.mc_c_types.proofs.Orders.{contains_here, contains_later, contains_cases, contains_none}

pub contains_front : {X : Type 0} (x : X) (xs ys : List X) → Contains xs x → Contains (xs ++ ys) x
contains_front x [] ys h = absurd (contains_none x h)
contains_front x (y ∷ xs) ys h =
    elim (contains_cases x y xs h) [ inl p ↦ rw p (contains_here y (xs ++ ys)) | inr p ↦ contains_later x y (xs ++ ys) (contains_front x xs ys p) ]

pub contains_back : {X : Type 0} (x : X) (xs ys : List X) → Contains ys x → Contains (xs ++ ys) x
contains_back x [] ys h = h
contains_back x (y ∷ xs) ys h = contains_later x y (xs ++ ys) (contains_back x xs ys h)

pub contains_either : {X : Type 0} (x : X) (xs ys : List X) → Contains (xs ++ ys) x → Contains xs x ⊎ Contains ys x
contains_either x [] ys h = inr h
contains_either x (y ∷ xs) ys h =
    elim (contains_cases x y (xs ++ ys) h) [
      | inl p ↦ inl (rw p (contains_here y xs))
      | inr p ↦ elim (contains_either x xs ys p) [ inl q ↦ inl (contains_later x y xs q) | inr q ↦ inr q ]
    ]

pub contains_mapped : {X Y : Type 0} (f : X → Y) (x : X) (xs : List X) → Contains xs x → Contains (map f xs) (f x)
contains_mapped f x [] h = absurd (contains_none x h)
contains_mapped f x (y ∷ xs) h =
    elim (contains_cases x y xs h) [ inl p ↦ rw p (contains_here (f y) (map f xs)) | inr p ↦ contains_later (f x) (f y) (map f xs) (contains_mapped f x xs p) ]

-- what is in a list of pictures is the picture of something
pub record Origin {X Y : Type 0} (f : X → Y) (xs : List X) (y : Y) : Type 0 where
  pub of : X
  pub among : Contains xs of
  pub is : y ≡ f of

pub contains_origin : {X Y : Type 0} (f : X → Y) (y : Y) (xs : List X) → Contains (map f xs) y → Origin f xs y
contains_origin f y [] h = absurd (contains_none y h)
contains_origin f y (x ∷ xs) h =
    elim (contains_cases y (f x) (map f xs) h) [
      | inl p ↦ record { of = x; among = contains_here x xs; is = p }
      | inr p ↦ (let o = contains_origin f y xs p in record { of = o.of; among = contains_later o.of x xs o.among; is = o.is })
    ]

pub get_same : {X : Type 0} (xs : List X) (i : ℕ) (d e : X) → i < length xs → get_or xs i d ≡ get_or xs i e
get_same [] i d e below = absurd (omega arith)
get_same (x ∷ xs) zero d e below = refl
get_same (x ∷ xs) (suc i) d e below = get_same xs i d e (omega arith)

pub contains_got : {X : Type 0} (xs : List X) (i : ℕ) (d : X) → i < length xs → Contains xs (get_or xs i d)
contains_got xs i d below = (i, below, get_same xs i (get_or xs i d) d below)

pub contains_at : {X : Type 0} (xs : List X) (i : ℕ) (x : X) → i < length xs → x ≡ get_or xs i x → Contains xs x
contains_at xs i x below is = (i, below, sym is)
