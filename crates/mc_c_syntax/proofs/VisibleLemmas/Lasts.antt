-- The last places of names.
use Rattle.std.proofs.Common.{◌≡◌, ℕ, zero, suc, List, [], ◌∷◌, ◌++◌, ◌<◌, ◌≤◌, refl, ap, sym, subst, ◌∙◌, Bool, true, false, cond, length, take, arith}
use Rattle.std.proofs.lemmas.Option.{none-some, same_Some}
use Rattle.std.proofs.lemmas.List.{take-take}
use Rattle.std.specs.Cmp.Lexicographic.{bytes_decides}
use Rattle.std.specs.Option.{option_or}
use Rattle.std.specs.Prelude.{Option, Some, None, option_map, slice_get}
use Rattle.mc_c_syntax.specs.Visible.Lasts.{is_same, last_place}

pub same_is : (name other : List ℕ) → is_same name other ≡ true → name ≡ other
same_is name other same = (bytes_decides name other).0 same

-- where one more is added
later : (b : Bool) (k : ℕ) (o c : Option ℕ) → option_or (option_map (λ i. suc i) (cond b (Some k) o)) c ≡ cond b (Some (suc k)) (option_or (option_map (λ i. suc i) o) c)
later true k o c = refl
later false k o c = refl

pub last_place-push : (names : List (List ℕ)) (n name : List ℕ) → last_place (names ++ n ∷ []) name ≡ cond (is_same n name) (Some (length names)) (last_place names name)
last_place-push [] n name = refl
last_place-push (x ∷ names) n name =
    rw (last_place-push names n name) (later (is_same n name) (length names) (last_place names name) (cond (is_same x name) (Some 0) None))

-- a name that is not there is not among the first ones
none_later : (o c : Option ℕ) → option_or (option_map (λ i. suc i) o) c ≡ None → (o ≡ None) × (c ≡ None)
none_later None c e = (refl, e)
none_later (Some i) c e = absurd (none-some (suc i) (sym e))

pub last_place-none : (names : List (List ℕ)) (name : List ℕ) (n : ℕ) → last_place names name ≡ None → last_place (take n names) name ≡ None
last_place-none [] name zero e = refl
last_place-none [] name (suc n) e = refl
last_place-none (x ∷ names) name zero e = refl
last_place-none (x ∷ names) name (suc n) e =
    let parts = none_later (last_place names name) (cond (is_same x name) (Some 0) None) e in
    rw (last_place-none names name n parts.0) parts.1

-- a place that is found is in the list
below_step : (o : Option ℕ) (b : Bool) (n p : ℕ) → ((q : ℕ) → o ≡ Some q → q < n)
    → option_or (option_map (λ i. suc i) o) (cond b (Some 0) None) ≡ Some p → p < suc n
below_step (Some q) b n p less e =
    let is : suc q ≡ p = same_Some _ _ e in
    let below : q < n = less q refl in
    omega arith
below_step None true n p less e = let is : 0 ≡ p = same_Some _ _ e in omega arith
below_step None false n p less e = absurd (none-some p e)

pub last_place-below : (names : List (List ℕ)) (name : List ℕ) (p : ℕ) → last_place names name ≡ Some p → p < length names
last_place-below [] name p e = absurd (none-some p e)
last_place-below (x ∷ names) name p e = below_step (last_place names name) (is_same x name) (length names) p (λ q h. last_place-below names name q h) e

-- and has that name
same_step : (x : List ℕ) (names : List (List ℕ)) (name : List ℕ) (o : Option ℕ) (b : Bool) (p : ℕ) (n : List ℕ) → is_same x name ≡ b
    → ((q : ℕ) → o ≡ Some q → slice_get names q ≡ Some n → is_same n name ≡ true)
    → option_or (option_map (λ i. suc i) o) (cond b (Some 0) None) ≡ Some p → slice_get (x ∷ names) p ≡ Some n → is_same n name ≡ true
same_step x names name (Some q) b p n is same e at = same q refl (subst (λ i. slice_get (x ∷ names) i ≡ Some n) (sym (same_Some _ _ e)) at)
same_step x names name None true p n is same e at =
    let head : Some x ≡ Some n = subst (λ i. slice_get (x ∷ names) i ≡ Some n) (sym (same_Some _ _ e)) at in
    subst (λ m. is_same m name ≡ true) (same_Some _ _ head) is
same_step x names name None false p n is same e at = absurd (none-some p e)

pub last_place-same : (names : List (List ℕ)) (name : List ℕ) (p : ℕ) (n : List ℕ) → last_place names name ≡ Some p → slice_get names p ≡ Some n → is_same n name ≡ true
last_place-same [] name p n e at = absurd (none-some p e)
last_place-same (x ∷ names) name p n e at =
    same_step x names name (last_place names name) (is_same x name) p n refl (λ q h there. last_place-same names name q n h there) e at

-- the last place among the first ones, where it is the last of all
cut_step : (o t : Option ℕ) (b : Bool) (n p : ℕ) → (o ≡ None → t ≡ None) → ((q : ℕ) → o ≡ Some q → q < n → t ≡ Some q)
    → option_or (option_map (λ i. suc i) o) (cond b (Some 0) None) ≡ Some p → p < suc n → option_or (option_map (λ i. suc i) t) (cond b (Some 0) None) ≡ Some p
cut_step (Some q) t b n p none some e below =
    let is : suc q ≡ p = same_Some _ _ e in
    let less : q < n = omega arith in
    rw (some q refl less) (ap (λ i. Some i) is)
cut_step None t b n p none some e below = rw (none refl) e

pub last_place-cut : (names : List (List ℕ)) (name : List ℕ) (n p : ℕ) → last_place names name ≡ Some p → p < n → last_place (take n names) name ≡ Some p
last_place-cut [] name n p e below = absurd (none-some p e)
last_place-cut (x ∷ names) name zero p e below = grind arith
last_place-cut (x ∷ names) name (suc n) p e below =
    cut_step (last_place names name) (last_place (take n names) name) (is_same x name) n p (λ h. last_place-none names name n h)
    (λ q h less. last_place-cut names name n q h less) e below

-- among fewer of the first ones
pub none_within : (names : List (List ℕ)) (name : List ℕ) (n k : ℕ) → n ≤ k → last_place (take k names) name ≡ None → last_place (take n names) name ≡ None
none_within names name n k le e = subst (λ ns. last_place ns name ≡ None) (take-take n k names le) (last_place-none (take k names) name n e)

pub cut_within : (names : List (List ℕ)) (name : List ℕ) (n k p : ℕ) → n ≤ k → last_place (take k names) name ≡ Some p → p < n → last_place (take n names) name ≡ Some p
cut_within names name n k p le e below = subst (λ ns. last_place ns name ≡ Some p) (take-take n k names le) (last_place-cut (take k names) name n p e below)
