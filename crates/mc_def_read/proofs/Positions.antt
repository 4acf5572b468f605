-- First places in lists, and what stands at a place.
use native.Mathlib.Omega.{arith}
use Rattle.std.proofs.Common.{◌≡◌, ℕ, zero, suc, List, [], ◌∷◌, ◌++◌, ◌+◌, refl, ap, Bool, true, false, cond, length}
use Rattle.std.specs.Prelude.{Option, Some, None, map, position, option_map, slice_get}
use Rattle.mc_c_syntax.proofs.NamesLemmas.Positions.{position-cons}

front_step : (b : Bool) (o o' : Option ℕ) (i : ℕ) → ((j : ℕ) → o ≡ Some j → o' ≡ Some j) → cond b (Some 0) (option_map (λ k. suc k) o) ≡ Some i → cond b (Some 0) (option_map (λ k. suc k) o') ≡ Some i
front_step true o o' i h e = e
front_step false None o' i h e = absurd (cc)
front_step false (Some j) o' i h e = rw (h j refl) e

-- a place among the first is one among all
pub position_front : {X : Type 0} (p : X → Bool) (xs ys : List X) (i : ℕ) → position p xs ≡ Some i → position p (xs ++ ys) ≡ Some i
position_front p [] ys i e = absurd (cc)
position_front p (x ∷ xs) ys i e = rw (position-cons p x (xs ++ ys)) (front_step (p x) (position p xs) (position p (xs ++ ys)) i (λ j h. position_front p xs ys j h) (rw (position-cons p x xs) at e))

behind_step : (b : Bool) (o o' : Option ℕ) (i : ℕ) → (o ≡ None → o' ≡ Some i) → cond b (Some 0) (option_map (λ k. suc k) o) ≡ None → cond b (Some 0) (option_map (λ k. suc k) o') ≡ Some (suc i)
behind_step true o o' i h e = absurd (cc)
behind_step false None o' i h e = rw (h refl) refl
behind_step false (Some j) o' i h e = absurd (cc)

-- and one among the others comes after the first
pub position_behind : {X : Type 0} (p : X → Bool) (xs ys : List X) (j : ℕ) → position p xs ≡ None → position p ys ≡ Some j → position p (xs ++ ys) ≡ Some (length xs + j)
position_behind p [] ys j e f = let none : 0 + j ≡ j = omega arith in rw none f
position_behind p (x ∷ xs) ys j e f =
    let sum : suc (length xs) + j ≡ suc (length xs + j) = omega arith in
    rw (position-cons p x (xs ++ ys), sum) (behind_step (p x) (position p xs) (position p (xs ++ ys)) (length xs + j) (λ none. position_behind p xs ys j none f) (rw (position-cons p x xs) at e))

none_step : (b : Bool) (o o' : Option ℕ) → (o ≡ None → o' ≡ None) → cond b (Some 0) (option_map (λ k. suc k) o) ≡ None → cond b (Some 0) (option_map (λ k. suc k) o') ≡ None
none_step true o o' h e = absurd (cc)
none_step false None o' h e = rw (h refl) refl
none_step false (Some j) o' h e = absurd (cc)

pub position_none : {X : Type 0} (p : X → Bool) (xs ys : List X) → position p xs ≡ None → position p ys ≡ None → position p (xs ++ ys) ≡ None
position_none p [] ys e f = f
position_none p (x ∷ xs) ys e f = rw (position-cons p x (xs ++ ys)) (none_step (p x) (position p xs) (position p (xs ++ ys)) (λ none. position_none p xs ys none f) (rw (position-cons p x xs) at e))

-- a place in a list whose elements are seen otherwise
pub position_map : {X Y : Type 0} (p : Y → Bool) (f : X → Y) (xs : List X) → position p (map f xs) ≡ position (λ x. p (f x)) xs
position_map p f [] = refl
position_map p f (x ∷ xs) = rw (position-cons p (f x) (map f xs), position-cons (λ y. p (f y)) x xs) (ap (λ o. cond (p (f x)) (Some 0) (option_map (λ i. suc i) o)) (position_map p f xs))

-- what stands at a place stands there with more after
pub get_front : {X : Type 0} (xs ys : List X) (i : ℕ) (x : X) → slice_get xs i ≡ Some x → slice_get (xs ++ ys) i ≡ Some x
get_front [] ys i x e = absurd (cc)
get_front (y ∷ xs) ys zero x e = e
get_front (y ∷ xs) ys (suc i) x e = get_front xs ys i x e
