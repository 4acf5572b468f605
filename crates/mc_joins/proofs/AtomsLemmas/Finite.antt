-- What a list has: things of which there are finitely many.
use Rattle.std.proofs.Common.{◌≡◌, ◌⊎◌, ◌<◌, ℕ, zero, suc, List, [], ◌∷◌, ◌++◌, Some, slice_get, refl, sym, subst, inl, inr, arith}

-- the thing stands at a place of the list
abbrev pub Among : {X : Type 0} → List X → X → Type 0
Among {X} xs x = (i : ℕ) × (slice_get xs i ≡ Some x)

-- it is so, or not
abbrev pub Either : Type 0 → Type 0
Either P = P ⊎ (P → ⊥)

-- a list has exactly these things
pub record Finite {X : Type 0} (P : X → Type 0) : Type 0 where
  pub list : List X
  pub sound : (x : X) → Among list x → P x
  pub full : (x : X) → P x → Among list x

pub some_same : {X : Type 0} {x y : X} → Some x ≡ Some y → x ≡ y
some_same e = cc

-- ---- lists

module _ {X : Type 0} where
  pub among_none : (x : X) → Among [] x → ⊥
  among_none x m = let e = m.1 in cc

  pub among_there : (y : X) (xs : List X) (x : X) → Among xs x → Among (y ∷ xs) x
  among_there y xs x m = (suc m.0, m.1)

  pub among_cases : (y : X) (xs : List X) (x : X) → Among (y ∷ xs) x → (y ≡ x) ⊎ Among xs x
  among_cases y xs x m = at m.0 m.1
    where
      at : (i : ℕ) → slice_get (y ∷ xs) i ≡ Some x → (y ≡ x) ⊎ Among xs x
      at zero e = inl (some_same e)
      at (suc i) e = inr (i, e)

  pub among_left : (xs ys : List X) (x : X) → Among xs x → Among (xs ++ ys) x
  among_left [] ys x m = absurd (among_none x m)
  among_left (y ∷ xs) ys x m = elim (among_cases y xs x m) [
    | inl e ↦ (0, subst (λ (z : X). Some y ≡ Some z) e refl)
    | inr l ↦ among_there y (xs ++ ys) x (among_left xs ys x l)
  ]

  pub among_right : (xs ys : List X) (x : X) → Among ys x → Among (xs ++ ys) x
  among_right [] ys x m = m
  among_right (y ∷ xs) ys x m = among_there y (xs ++ ys) x (among_right xs ys x m)

  pub among_either : (xs ys : List X) (x : X) → Among (xs ++ ys) x → Among xs x ⊎ Among ys x
  among_either [] ys x m = inr m
  among_either (y ∷ xs) ys x m = elim (among_cases y (xs ++ ys) x m) [
    | inl e ↦ inl (0, subst (λ (z : X). Some y ≡ Some z) e refl)
    | inr l ↦ elim (among_either xs ys x l) [ inl a ↦ inl (among_there y xs x a) | inr b ↦ inr b ]
  ]

-- ---- finite sets

module _ {X : Type 0} where
  pub finite_none : (P : X → Type 0) → ((x : X) → P x → ⊥) → Finite P
  finite_none P never = record { list = []; sound = λ x m. absurd (among_none x m); full = λ x p. absurd (never x p) }

  pub finite_one : (P : X → Type 0) (x : X) → P x → ((y : X) → P y → y ≡ x) → Finite P
  finite_one P x p same = record {
    list = x ∷ [];
    sound = λ y m. elim (among_cases x [] y m) [ inl e ↦ subst P e p | inr l ↦ absurd (among_none y l) ];
    full = λ y q. (0, subst (λ (z : X). Some x ≡ Some z) (sym (same y q)) refl);
  }

  pub finite_as : (P Q : X → Type 0) → ((x : X) → P x → Q x) → ((x : X) → Q x → P x) → Finite P → Finite Q
  finite_as P Q to from f = record { list = f.list; sound = λ x m. to x (f.sound x m); full = λ x q. f.full x (from x q) }

  pub finite_or : (P Q : X → Type 0) → Finite P → Finite Q → Finite (λ x. P x ⊎ Q x)
  finite_or P Q f g = record {
    list = f.list ++ g.list;
    sound = λ x m. elim (among_either f.list g.list x m) [ inl a ↦ inl (f.sound x a) | inr b ↦ inr (g.sound x b) ];
    full = λ x w. elim w [ inl p ↦ among_left f.list g.list x (f.full x p) | inr q ↦ among_right f.list g.list x (g.full x q) ];
  }

  -- the things of a list
  pub finite_list : (xs : List X) → Finite (Among xs)
  finite_list xs = record { list = xs; sound = λ x m. m; full = λ x m. m }

  -- there is one, or none
  pub finite_some : (P : X → Type 0) → Finite P → ((x : X) × P x) ⊎ ((x : X) → P x → ⊥)
  finite_some P f = at f.list refl
    where
      at : (xs : List X) → f.list ≡ xs → ((x : X) × P x) ⊎ ((x : X) → P x → ⊥)
      at [] e = inr (λ x p. among_none x (subst (λ (ys : List X). Among ys x) e (f.full x p)))
      at (x ∷ xs) e = inl (x, f.sound x (0, subst (λ (ys : List X). slice_get ys 0 ≡ Some x) (sym e) refl))

-- with one of the things
module _ {X : Type 0} {Y : Type 0} (R : X → Y → Type 0) where
  each_of : (xs : List X) → ((x : X) → Among xs x → Finite (R x)) → Finite (λ (y : Y). (x : X) × Among xs x × R x y)
  each_of [] f = finite_none (λ (y : Y). (x : X) × Among [] x × R x y) (λ y m. among_none m.0 m.1)
  each_of (z ∷ xs) f =
      let here : Finite (R z) = f z (0, refl) in
      let rest : Finite (λ (y : Y). (x : X) × Among xs x × R x y) = each_of xs (λ x m. f x (among_there z xs x m)) in
      finite_as (λ (y : Y). R z y ⊎ ((x : X) × Among xs x × R x y)) (λ (y : Y). (x : X) × Among (z ∷ xs) x × R x y)
      (λ y w. elim w [ inl r ↦ (z, (0, refl), r) | inr k ↦ (k.0, among_there z xs k.0 k.1, k.2) ])
      (λ y k. elim (among_cases z xs k.0 k.1) [ inl e ↦ inl (subst (λ (u : X). R u y) (sym e) k.2) | inr l ↦ inr (k.0, l, k.2) ])
      (finite_or (R z) (λ (y : Y). (x : X) × Among xs x × R x y) here rest)

  pub finite_with : (P : X → Type 0) → Finite P → ((x : X) → P x → Finite (R x)) → Finite (λ (y : Y). (x : X) × P x × R x y)
  finite_with P f g =
      finite_as (λ (y : Y). (x : X) × Among f.list x × R x y) (λ (y : Y). (x : X) × P x × R x y)
      (λ y k. (k.0, f.sound k.0 k.1, k.2))
      (λ y k. (k.0, f.full k.0 k.1, k.2))
      (each_of f.list (λ x m. g x (f.sound x m)))

-- those of which something else holds, where that is decided
pub finite_where : {X : Type 0} (P D : X → Type 0) → Finite P → ((x : X) → P x → Either (D x)) → Finite (λ x. P x × D x)
finite_where {X} P D f decide =
    finite_as (λ (y : X). (x : X) × P x × ((y ≡ x) × D x)) (λ (x : X). P x × D x)
    (λ y k. (subst P (sym k.2.0) k.1, subst D (sym k.2.0) k.2.1))
    (λ y k. (y, k.0, (refl, k.1)))
    (finite_with (λ (x y : X). (y ≡ x) × D x) P f (λ x p. one x (decide x p)))
  where
    one : (x : X) → Either (D x) → Finite (λ (y : X). (y ≡ x) × D x)
    one x (inl d) = finite_one (λ (y : X). (y ≡ x) × D x) x (refl, d) (λ y k. k.0)
    one x (inr never) = finite_none (λ (y : X). (y ≡ x) × D x) (λ y k. never k.1)

-- ---- numbers and places

last_below : (k n : ℕ) → k < suc n → (k < n) ⊎ (k ≡ n)
last_below k n l = grind arith

pub finite_below : (n : ℕ) → Finite (λ (k : ℕ). k < n)
finite_below zero = finite_none (λ (k : ℕ). k < 0) (λ k l. omega arith)
finite_below (suc n) =
    finite_as (λ (k : ℕ). (k < n) ⊎ (k ≡ n)) (λ (k : ℕ). k < suc n)
    (λ k w. elim w [ inl l ↦ omega arith | inr e ↦ omega arith ])
    (λ k l. last_below k n l)
    (finite_or (λ (k : ℕ). k < n) (λ (k : ℕ). k ≡ n) (finite_below n) (finite_one (λ (k : ℕ). k ≡ n) n refl (λ k e. e)))

-- what stands at a place
pub finite_at : {X : Type 0} (xs : List X) (i : ℕ) → Finite (λ (x : X). slice_get xs i ≡ Some x)
finite_at {X} [] i = finite_none (λ (x : X). slice_get [] i ≡ Some x) (λ x e. cc)
finite_at {X} (y ∷ xs) zero = finite_one (λ (x : X). slice_get (y ∷ xs) 0 ≡ Some x) y refl (λ x e. sym (some_same e))
finite_at {X} (y ∷ xs) (suc i) = finite_at xs i
