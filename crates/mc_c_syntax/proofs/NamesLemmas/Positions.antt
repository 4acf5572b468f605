-- First places in lists.
use Rattle.std.proofs.Common.{◌≡◌, ℕ, suc, List, [], ◌∷◌, ◌++◌, ◌+◌, refl, ap, Bool, true, false, cond, not, length, arith, nat_lt}
use Rattle.std.specs.List.{prefix_len}
use Rattle.std.specs.Option.{option_or}
use Rattle.std.specs.Prelude.{Option, Some, None, map, position, option_map}

pub later_place : (n len : ℕ) (b c : Bool) → nat_lt (1 + n) (suc len) ≡ b → nat_lt n len ≡ c → cond b (Some (1 + n)) None ≡ option_map (λ i. suc i) (cond c (Some n) None)
later_place n len true true p q = ap (λ i. Some i) (omega arith)
later_place n len false false p q = refl
later_place n len true false p q = grind arith
later_place n len false true p q = grind arith

pub position_step : (b : Bool) (n len : ℕ)
    → cond (nat_lt (cond (not b) (1 + n) 0) (suc len)) (Some (cond (not b) (1 + n) 0)) None ≡ cond b (Some 0) (option_map (λ i. suc i) (cond (nat_lt n len) (Some n) None))
position_step true n len = let first : nat_lt 0 (suc len) ≡ true = grind arith in rw first refl
position_step false n len = later_place n len _ _ refl refl

-- the first place, at the head or after it
pub position-cons : {X : Type 0} (p : X → Bool) (x : X) (xs : List X) → position p (x ∷ xs) ≡ cond (p x) (Some 0) (option_map (λ i. suc i) (position p xs))
position-cons p x xs = position_step (p x) (prefix_len (λ y. not (p y)) xs) (length xs)

-- the first place, among the first or else at the last
pub push_step : (b : Bool) (o : Option ℕ) (c : Bool) (n : ℕ)
    → cond b (Some 0) (option_map (λ i. suc i) (option_or o (cond c (Some n) None))) ≡ option_or (cond b (Some 0) (option_map (λ i. suc i) o)) (cond c (Some (suc n)) None)
push_step true o c n = refl
push_step false (Some i) c n = refl
push_step false None true n = refl
push_step false None false n = refl

pub position-push : {X : Type 0} (p : X → Bool) (xs : List X) (y : X) → position p (xs ++ y ∷ []) ≡ option_or (position p xs) (cond (p y) (Some (length xs)) None)
position-push p [] y = position-cons p y []
position-push p (x ∷ xs) y =
    rw (position-cons p x (xs ++ y ∷ [])) (rw (position-cons p x xs) (rw (position-push p xs y) (push_step (p x) (position p xs) (p y) (length xs))))

-- a place in a list whose elements are seen otherwise
pub position-map : {X Y : Type 0} (p : Y → Bool) (f : X → Y) (xs : List X) → position p (map f xs) ≡ position (λ x. p (f x)) xs
position-map p f [] = refl
position-map p f (x ∷ xs) = rw (position-cons p (f x) (map f xs)) (rw (position-cons (λ y. p (f y)) x xs) (ap (λ o. cond (p (f x)) (Some 0) (option_map (λ i. suc i) o)) (position-map p f xs)))
