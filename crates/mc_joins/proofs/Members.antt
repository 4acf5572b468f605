-- What a list has.
use Rattle.std.proofs.Common.{◌≡◌, ℕ, zero, suc, ◌+◌, Bool, true, false, List, [], ◌∷◌, ◌++◌, map, Option, Some, None, length, slice_get, refl, ap, ◌∙◌, subst, inl, inr, arith}
use Rattle.std.specs.Prelude.{◌⊎◌, ◌&&◌, is_none, flat_map, option_and_then}
use Rattle.std.specs.List.{list_all, range_with_len}

abbrev pub Has : {X : Type 0} → List X → X → Type 0
Has [] x = ⊥
Has (y ∷ ys) x = (x ≡ y) ⊎ Has ys x

both_true : (a b : Bool) → (a && b) ≡ true → (a ≡ true) × (b ≡ true)
both_true true true e = (refl, refl)
both_true true false e = absurd (cc e)
both_true false b e = absurd (cc e)

pub has_all : {X : Type 0} (test : X → Bool) (xs : List X) (x : X) → list_all test xs ≡ true → Has xs x → test x ≡ true
has_all test [] x e h = absurd h
has_all test (y ∷ ys) x e (inl same) = ap test same ∙ (both_true (test y) (list_all test ys) e).0
has_all test (y ∷ ys) x e (inr h) = has_all test ys x (both_true (test y) (list_all test ys) e).1 h

pub all_of : {X : Type 0} (test : X → Bool) (xs : List X) → ((x : X) → test x ≡ true) → list_all test xs ≡ true
all_of test [] f = refl
all_of test (x ∷ xs) f = ap (λ b. b && list_all test xs) (f x) ∙ all_of test xs f

pub has_map : {X Y : Type 0} (f : X → Y) (xs : List X) (x : X) → Has xs x → Has (map f xs) (f x)
has_map f [] x h = absurd h
has_map f (y ∷ ys) x (inl same) = inl (ap f same)
has_map f (y ∷ ys) x (inr h) = inr (has_map f ys x h)

pub has_left : {X : Type 0} (xs ys : List X) (x : X) → Has xs x → Has (xs ++ ys) x
has_left [] ys x h = absurd h
has_left (y ∷ xs) ys x (inl same) = inl same
has_left (y ∷ xs) ys x (inr h) = inr (has_left xs ys x h)

pub has_right : {X : Type 0} (xs ys : List X) (x : X) → Has ys x → Has (xs ++ ys) x
has_right [] ys x h = h
has_right (y ∷ xs) ys x h = inr (has_right xs ys x h)

pub has_flat : {X Y : Type 0} (f : X → List Y) (xs : List X) (x : X) (y : Y) → Has xs x → Has (f x) y → Has (flat_map f xs) y
has_flat f [] x y h k = absurd h
has_flat {Y = Y} f (z ∷ zs) x y (inl same) k = has_left (f z) (flat_map f zs) y (subst (λ w. Has {X = Y} (f w) y) same k)
has_flat f (z ∷ zs) x y (inr h) k = has_right (f z) (flat_map f zs) y (has_flat f zs x y h k)

-- the places of a list
pub place_has : {X : Type 0} (xs : List X) (from i : ℕ) (x : X) → slice_get xs i ≡ Some x → Has (range_with_len from (length xs)) (from + i)
place_has [] from i x e = absurd (cc e)
place_has (y ∷ ys) from zero x e = inl (omega arith)
place_has (y ∷ ys) from (suc i) x e = inr (let same : (from + 1) + i ≡ from + suc i = omega arith in subst (λ n. Has {X = ℕ} (range_with_len (from + 1) (length ys)) n) same (place_has ys (from + 1) i x e))

pub first_place_has : {X : Type 0} (xs : List X) (i : ℕ) (x : X) → slice_get xs i ≡ Some x → Has (range_with_len 0 (length xs)) i
first_place_has xs i x e = let same : 0 + i ≡ i = omega arith in subst (λ n. Has {X = ℕ} (range_with_len 0 (length xs)) n) same (place_has xs 0 i x e)

-- ---- options

pub then_none : {X Y : Type 0} (f : X → Option Y) → ((x : X) → f x ≡ None) → (o : Option X) → option_and_then f o ≡ None
then_none f each None = refl
then_none f each (Some x) = each x

pub none_is : {X : Type 0} (o : Option X) → is_none o ≡ true → o ≡ None
none_is None e = refl
none_is (Some x) e = absurd (cc e)

pub is_none_of : {X : Type 0} (o : Option X) → o ≡ None → is_none o ≡ true
is_none_of o e = ap (λ x. is_none x) e
