-- Rules whose premises are met give something, and items that pass tests.
use Rattle.std.proofs.Common.{◌≡◌, ◌⊎◌, inl, inr, ℕ, zero, suc, ◌<◌, List, [], ◌∷◌, length, Bool, true, false, Option, Some, None, slice_get, refl, sym, ap, ◌∙◌, arith}
use Rattle.std.specs.Prelude.{◌&&◌, ◌||◌, cond, Ok}
use Rattle.std.specs.List.{find, list_any}
use Rattle.mc_state.specs.Premises.{Judged, need, have, then_give}

-- what is judged gives something
abbrev pub Gives : {A : Type 0} → Judged A → Type 0
Gives {A} judged = (a : A) × (judged ≡ Ok a)

pub need_gives : {A : Type 0} (k : ℕ) (test : Bool) (rest : Judged A) → test ≡ true → Gives rest → Gives (need k test rest)
need_gives k test rest e g = (g.0, ap (λ (z : Bool). need k z rest) e ∙ g.1)

pub have_gives : {W A : Type 0} (k : ℕ) (option : Option W) (rest : W → Judged A) (w : W) → option ≡ Some w → Gives (rest w) → Gives (have k option rest)
have_gives {W} k option rest w e g = (g.0, ap (λ (z : Option W). have k z rest) e ∙ g.1)

pub then_gives : {A B : Type 0} (f : A → B) (judged : Judged A) → Gives judged → Gives (then_give f judged)
then_gives f judged g = (f g.0, ap (then_give f) g.1)

-- ---- tests

pub either : (test : Bool) → (test ≡ true) ⊎ (test ≡ false)
either true = inl refl
either false = inr refl

pub or_one : (a b : Bool) → (a || b) ≡ true → (a ≡ true) ⊎ (b ≡ true)
or_one true b e = inl refl
or_one false b e = inr e

pub or_left : (a b : Bool) → a ≡ true → (a || b) ≡ true
or_left a b e = ap (λ (z : Bool). z || b) e

pub or_right : (a b : Bool) → b ≡ true → (a || b) ≡ true
or_right true b e = refl
or_right false b e = e

pub and_two : (a b : Bool) → a ≡ true → b ≡ true → (a && b) ≡ true
and_two a b e f = ap (λ (z : Bool). z && b) e ∙ f

pub and_split : (a b : Bool) → (a && b) ≡ true → (a ≡ true) × (b ≡ true)
and_split true b e = (refl, e)
and_split false b e = absurd (cc e)

-- ---- lists

-- the first item that passes a test, which passes it; what it passes, some item passes
pub record Found {A : Type 0} (test : A → Bool) (xs : List A) : Type 0 where
  pub item : A
  pub found : find test xs ≡ Some item
  pub passes : test item ≡ true
  pub listed : (other : A → Bool) → other item ≡ true → list_any other xs ≡ true

-- no item passes
pub record NoneFound {A : Type 0} (test : A → Bool) (xs : List A) : Type 0 where
  pub found : find test xs ≡ None
  pub none : list_any test xs ≡ false

-- an item is found, or none passes
pub found_or : {A : Type 0} (test : A → Bool) (xs : List A) → Found test xs ⊎ NoneFound test xs
found_or test [] = inr (record { found = refl; none = refl })
found_or {A} test (x ∷ xs) = at (test x) refl (found_or test xs)
  where
    at : (b : Bool) → test x ≡ b → Found test xs ⊎ NoneFound test xs → Found test (x ∷ xs) ⊎ NoneFound test (x ∷ xs)
    at true e rest = inl (record {
      item = x;
      found = ap (λ (z : Bool). cond z (Some x) (find test xs)) e;
      passes = e;
      listed = λ other f. or_left (other x) (list_any other xs) f;
    })
    at false e (inl f) = inl (record {
      item = f.item;
      found = ap (λ (z : Bool). cond z (Some x) (find test xs)) e ∙ f.found;
      passes = f.passes;
      listed = λ other g. or_right (other x) (list_any other xs) (f.listed other g);
    })
    at false e (inr n) = inr (record {
      found = ap (λ (z : Bool). cond z (Some x) (find test xs)) e ∙ n.found;
      none = ap (λ (z : Bool). z || list_any test xs) e ∙ n.none;
    })

-- where each item that passes a test passes one of two others, and none passes those, none passes it
pub none_of_two : {A : Type 0} (test one other : A → Bool) (xs : List A) → ((x : A) → test x ≡ true → (one x ≡ true) ⊎ (other x ≡ true))
    → list_any one xs ≡ false → list_any other xs ≡ false → list_any test xs ≡ false
none_of_two test one other xs each no_one no_other = elim (found_or test xs) [
  | inr n ↦ n.none
  | inl f ↦ elim (each f.item f.passes) [
    | inl e ↦ let two : true ≡ false = sym (f.listed one e) ∙ no_one in absurd (cc two)
    | inr e ↦ let two : true ≡ false = sym (f.listed other e) ∙ no_other in absurd (cc two)
  ]
]

-- what stands at a place of a list
pub item_at : {A : Type 0} (xs : List A) (place : ℕ) → place < length xs → (x : A) × (slice_get xs place ≡ Some x)
item_at [] place less = absurd (omega arith)
item_at (x ∷ xs) zero less = (x, refl)
item_at (x ∷ xs) (suc place) less = item_at xs place (omega arith)
