-- How places follow one another.
use Rattle.std.proofs.Common.{◌≡◌, ◌<◌, ◌≤◌, ◌==◌, ℕ, Bool, true, false, cond, List, [], ◌∷◌, length, ◌⊎◌, inl, inr, ⊎_elim, refl, ap, sym, slice_index_or, arith}
use Rattle.std.proofs.lemmas.Bool.{cases_order}
use Rattle.mc_base.specs.declared.text.place.Place.{Place}
use Rattle.mc_c_syntax.specs.declared.lex.spot.Spot.{Spot}
use Rattle.mc_c_syntax.specs.Lex.Spots.{step, behind}
use Rattle.mc_c_grammar.specs.Places.Places.{IsBefore, AreAscending, AreDistinct}

-- one place is no further than another
abbrev pub IsUpTo : Place → Place → Type 0
IsUpTo p q = (p.line < q.line) ⊎ ((p.line ≡ q.line) × (p.column ≤ q.column))

pub up_to_itself : (p : Place) → IsUpTo p p
up_to_itself p = inr (refl, omega arith)

pub before_is_up_to : (p q : Place) → IsBefore p q → IsUpTo p q
before_is_up_to p q less = ⊎_elim (λ l. inl l) (λ c. inr (c.0, omega arith)) less

pub up_to_up_to : (p q r : Place) → IsUpTo p q → IsUpTo q r → IsUpTo p r
up_to_up_to p q r one other =
    ⊎_elim (λ l. inl (⊎_elim (λ m. omega arith) (λ d. omega arith) other)) (λ c. ⊎_elim (λ m. inl (omega arith)) (λ d. inr (omega arith, omega arith)) other) one

pub before_up_to : (p q r : Place) → IsBefore p q → IsUpTo q r → IsBefore p r
before_up_to p q r one other =
    ⊎_elim (λ l. inl (⊎_elim (λ m. omega arith) (λ d. omega arith) other)) (λ c. ⊎_elim (λ m. inl (omega arith)) (λ d. inr (omega arith, omega arith)) other) one

-- a byte leads on
before_either : (p : Place) (v : Bool) (one other : Spot) → IsBefore p one.place → IsBefore p other.place → IsBefore p (cond v one other).place
before_either p true one other h k = h
before_either p false one other h k = k

before_step : (spot : Spot) (byte : ℕ) → IsBefore spot.place (step spot byte).place
before_step spot byte = before_either spot.place (byte == 10) _ _ (inl (omega arith)) (inr (refl, omega arith))

-- bytes lead no way back
pub up_to_behind : (spot : Spot) (bytes : List ℕ) → IsUpTo spot.place (behind spot bytes).place
up_to_behind spot [] = up_to_itself spot.place
up_to_behind spot (byte ∷ bytes) =
    let next = step spot byte in
    up_to_up_to spot.place next.place (behind next bytes).place (before_is_up_to spot.place next.place (before_step spot byte)) (up_to_behind next bytes)

-- one byte or more leads on
pub before_behind : (spot : Spot) (bytes : List ℕ) → 0 < length bytes → IsBefore spot.place (behind spot bytes).place
before_behind spot [] some = absurd (omega arith)
before_behind spot (byte ∷ bytes) some =
    let next = step spot byte in
    before_up_to spot.place next.place (behind next bytes).place (before_step spot byte) (up_to_behind next bytes)

-- places that ascend differ at different positions
not_itself : (p q : Place) → IsBefore p q → p ≡ q → ⊥
not_itself p q less e =
    let line = ap (λ (x : Place). x.line) e in
    let column = ap (λ (x : Place). x.column) e in
    ⊎_elim (λ l. omega arith) (λ c. omega arith) less

pub ascending_differ : (places : List Place) → AreAscending places → AreDistinct places
ascending_differ places up = λ i j d i_small j_small e.
    ⊎_elim (λ same. same)
    (⊎_elim (λ less. absurd (not_itself (slice_index_or places i d) (slice_index_or places j d) (up i j d less j_small) e))
    (λ more. absurd (not_itself (slice_index_or places j d) (slice_index_or places i d) (up j i d more i_small) (sym e))))
    (cases_order i j)
