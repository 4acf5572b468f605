-- Lists whose elements differ, and the numbers of variables.
use Rattle.std.proofs.Common.{◌≡◌, ◌<◌, ◌⊎◌, inl, inr, ⊎_elim, ℕ, zero, suc, List, [], ◌∷◌, ◌++◌, map, reverse, length, refl, ap, sym, subst, arith, Contains, slice_index_or}
use Rattle.std.proofs.lemmas.List.Elements.{Contains-append_left, Contains-append_right, Contains-append_cases}
use Rattle.std.proofs.lemmas.Grind.{reverse_onto}
use Rattle.mc_c_types.specs.Tables.{Variable}
use Rattle.mc_semantics.specs.Resolved.Resolving.{number_in, numbers_in}

-- no element stands twice
abbrev pub Apart : {X : Type 0} → List X → Type 0
Apart [] = Unit {0}
Apart (x ∷ xs) = (Contains xs x → ⊥) × Apart xs

pub contains_head : {X : Type 0} (x : X) (xs : List X) → Contains (x ∷ xs) x
contains_head x xs = (0, omega arith, refl)

pub contains_tail : {X : Type 0} (y : X) (xs : List X) (x : X) → Contains xs x → Contains (y ∷ xs) x
contains_tail y xs x (k, less, e) = (suc k, omega (arith, less), e)

pub contains_cases : {X : Type 0} (y : X) (xs : List X) (x : X) → Contains (y ∷ xs) x → (y ≡ x) ⊎ Contains xs x
contains_cases y xs x (zero, less, e) = inl e
contains_cases y xs x (suc k, less, e) = inr (k, omega (arith, less), e)

pub contains_none : {X : Type 0} (x : X) → Contains [] x → ⊥
contains_none x there = omega (arith, there.1)

pub apart_left : {X : Type 0} (xs ys : List X) → Apart (xs ++ ys) → Apart xs
apart_left [] ys apart = tt
apart_left (x ∷ xs) ys apart = (λ there. apart.0 (Contains-append_left xs ys x there), apart_left xs ys apart.1)

pub apart_right : {X : Type 0} (xs ys : List X) → Apart (xs ++ ys) → Apart ys
apart_right [] ys apart = apart
apart_right (x ∷ xs) ys apart = apart_right xs ys apart.1

pub apart_both : {X : Type 0} (xs ys : List X) (z : X) → Apart (xs ++ ys) → Contains xs z → Contains ys z → ⊥
apart_both [] ys z apart left right = contains_none z left
apart_both {X} (x ∷ xs) ys z apart left right =
    ⊎_elim
    (λ e. let P : X → Type 0 = λ w. Contains ys w in apart.0 (Contains-append_right xs ys x (subst P (sym e) right)))
    (λ there. apart_both xs ys z apart.1 there right)
    (contains_cases x xs z left)

pub at_position : {X : Type 0} (xs : List X) (i : ℕ) (d x : X) → i < length xs → slice_index_or xs i d ≡ x → Contains xs x
at_position [] i d x less e = absurd (omega (arith, less))
at_position (y ∷ xs) zero d x less e = (0, omega arith, e)
at_position (y ∷ xs) (suc i) d x less e = contains_tail y xs x (at_position xs i d x (omega (arith, less)) e)

-- equal elements stand at one position
pub apart_at : {X : Type 0} (xs : List X) (i j : ℕ) (d : X) → Apart xs → i < length xs → j < length xs → slice_index_or xs i d ≡ slice_index_or xs j d → i ≡ j
apart_at [] i j d apart less other e = absurd (omega (arith, less))
apart_at (x ∷ xs) zero zero d apart less other e = refl
apart_at (x ∷ xs) zero (suc j) d apart less other e = absurd (apart.0 (at_position xs j d x (omega (arith, other)) (sym e)))
apart_at (x ∷ xs) (suc i) zero d apart less other e = absurd (apart.0 (at_position xs i d x (omega (arith, less)) e))
apart_at (x ∷ xs) (suc i) (suc j) d apart less other e = ap suc (apart_at xs i j d apart.1 (omega (arith, less)) (omega (arith, other)) e)

-- ---- mapped lists
pub mapped : {X Y : Type 0} (f : X → Y) (xs : List X) (x : X) → Contains xs x → Contains (map f xs) (f x)
mapped f [] x there = absurd (contains_none x there)
mapped {Y} f (y ∷ xs) x there =
    ⊎_elim
    (λ e. let P : Y → Type 0 = λ w. Contains (f y ∷ map f xs) w in subst P (ap f e) (contains_head (f y) (map f xs)))
    (λ later. contains_tail (f y) (map f xs) (f x) (mapped f xs x later))
    (contains_cases y xs x there)

pub unmapped : {X Y : Type 0} (f : X → Y) (xs : List X) (y : Y) → Contains (map f xs) y → (x : X) × Contains xs x × (f x ≡ y)
unmapped f [] y there = absurd (contains_none y there)
unmapped f (x ∷ xs) y there =
    ⊎_elim
    (λ e. (x, contains_head x xs, e))
    (λ later. let found = unmapped f xs y later in (found.0, contains_tail x xs found.0 found.1, found.2))
    (contains_cases (f x) (map f xs) y there)

pub in_reverse : {X : Type 0} (xs : List X) (x : X) → Contains (reverse xs) x → Contains xs x
in_reverse [] x there = absurd (contains_none x there)
in_reverse {X} (y ∷ xs) x there =
    let P : List X → Type 0 = λ zs. Contains zs x in
    ⊎_elim
    (λ early. contains_tail y xs x (in_reverse xs x early))
    (λ late. let Q : X → Type 0 = λ w. Contains (y ∷ xs) w in ⊎_elim (λ e. subst Q e (contains_head y xs)) (λ none. absurd (contains_none x none)) (contains_cases y [] x late))
    (Contains-append_cases (reverse xs) (y ∷ []) x (subst P (reverse_onto xs y []) there))

-- ---- numbers of variables
pub number_left : (locals xs ys : List Variable) (x : ℕ) → Contains (numbers_in locals xs) x → Contains (numbers_in locals (xs ++ ys)) x
number_left locals [] ys x there = absurd (contains_none x there)
number_left locals (v ∷ xs) ys x there =
    let P : ℕ → Type 0 = λ z. Contains (numbers_in locals ((v ∷ xs) ++ ys)) z in
    ⊎_elim (λ e. subst P e (contains_head (number_in locals v.place) (numbers_in locals (xs ++ ys))))
    (λ later. contains_tail (number_in locals v.place) (numbers_in locals (xs ++ ys)) x (number_left locals xs ys x later))
    (contains_cases (number_in locals v.place) (numbers_in locals xs) x there)

pub number_right : (locals xs ys : List Variable) (x : ℕ) → Contains (numbers_in locals ys) x → Contains (numbers_in locals (xs ++ ys)) x
number_right locals [] ys x there = there
number_right locals (v ∷ xs) ys x there = contains_tail (number_in locals v.place) (numbers_in locals (xs ++ ys)) x (number_right locals xs ys x there)

pub number_cases : (locals xs ys : List Variable) (x : ℕ) → Contains (numbers_in locals (xs ++ ys)) x → Contains (numbers_in locals xs) x ⊎ Contains (numbers_in locals ys) x
number_cases locals [] ys x there = inr there
number_cases locals (v ∷ xs) ys x there =
    let P : ℕ → Type 0 = λ z. Contains (numbers_in locals (v ∷ xs)) z in
    ⊎_elim (λ e. inl (subst P e (contains_head (number_in locals v.place) (numbers_in locals xs))))
    (λ later. ⊎_elim (λ left. inl (contains_tail (number_in locals v.place) (numbers_in locals xs) x left)) (λ right. inr right) (number_cases locals xs ys x later))
    (contains_cases (number_in locals v.place) (numbers_in locals (xs ++ ys)) x there)

pub numbers_append : (locals xs ys : List Variable) → numbers_in locals (xs ++ ys) ≡ numbers_in locals xs ++ numbers_in locals ys
numbers_append locals [] ys = refl
numbers_append locals (v ∷ xs) ys = ap (λ zs. number_in locals v.place ∷ zs) (numbers_append locals xs ys)
