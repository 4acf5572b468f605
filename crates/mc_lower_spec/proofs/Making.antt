-- The variables made by then of an occurrence can be listed.
use Rattle.std.proofs.Common.{◌⊎◌, inl, inr, ◌∙◌, ◌≡◌, ◌<◌, ◌+◌, ℕ, zero, suc, Bool, true, false, List, [], ◌∷◌, Some, refl, subst, ap, arith}
use Rattle.std.specs.Prelude.{slice_get, All, AllPairs, Contains, if◌then◌else◌, length, slice_index_or}
use Rattle.std.proofs.lemmas.List.Kept.{AllPairs-cons}
use Rattle.std.proofs.lemmas.List.Elements.{All-cons}
use Rattle.std.proofs.lemmas.Option.{none-some, same_Some}
use Rattle.std.proofs.lemmas.Bool.{eqb-true, eq-eqb, ltb-true, lt-ltb}
use Rattle.std.proofs.Math.Dec.{eqb, ltb}
use Rattle.mc_base.specs.declared.ids.VarId.{VarId}
use Rattle.mc_lower_spec.specs.Graphs.{Graph, Owner, local, result, temporary, var, stage, IsMade, is_made, AreMade}

-- the variables whose owners pass a test, among so many from this number on
abbrev pub made_from : (Owner → Bool) → (count n : ℕ) → List Owner → List VarId
made_from p zero n owners = []
made_from p (suc count) n [] = []
made_from p (suc count) n (o ∷ owners) = if p o then var n ∷ made_from p count (suc n) owners else made_from p count (suc n) owners

nothing_all : (P : VarId → Type 0) → All P []
nothing_all P k d less = absurd (omega (arith, less))

nothing_ascends : AllPairs {X = VarId} (λ v w. v.0 < w.0) []
nothing_ascends i j d less there = absurd (omega (arith, there))

contains_first : (b : Bool) (v : VarId) (vs : List VarId) → b ≡ true → Contains (if b then v ∷ vs else vs) v
contains_first true v vs e = (0, omega arith, refl)
contains_first false v vs e = absurd (cc)

contains_behind : (b : Bool) (v w : VarId) (vs : List VarId) → Contains vs w → Contains (if b then v ∷ vs else vs) w
contains_behind true v w vs there = (suc there.0, omega (arith, there.1), there.2)
contains_behind false v w vs there = there

found_from : (p : Owner → Bool) (count n i : ℕ) (owners : List Owner) (o : Owner) → slice_get owners i ≡ Some o → p o ≡ true → i < count
    → Contains (made_from p count n owners) (var (n + i))
found_from p zero n i owners o there passes less = absurd (omega (arith, less))
found_from p (suc count) n i [] o there passes less = absurd (none-some o there)
found_from p (suc count) n zero (q ∷ owners) o there passes less =
    let same : n ≡ n + 0 = omega arith in
    let is : p q ≡ true = ap p (same_Some q o there) ∙ passes in
    subst (λ k. Contains (made_from p (suc count) n (q ∷ owners)) (var k)) same (contains_first (p q) (var n) (made_from p count (suc n) owners) is)
found_from p (suc count) n (suc i) (q ∷ owners) o there passes less =
    let same : suc n + i ≡ n + suc i = omega arith in
    subst (λ k. Contains (made_from p (suc count) n (q ∷ owners)) (var k)) same
    (contains_behind (p q) (var n) (var (suc n + i)) (made_from p count (suc n) owners) (found_from p count (suc n) i owners o there passes (omega (arith, less))))

all_if : (P : VarId → Type 0) (b : Bool) (v : VarId) (vs : List VarId) → (b ≡ true → P v) → All P vs → All P (if b then v ∷ vs else vs)
all_if P true v vs first rest = All-cons P v vs (first refl) rest
all_if P false v vs first rest = rest

all_from : (P : VarId → Type 0) (p : Owner → Bool) (count n : ℕ) (owners : List Owner)
    → ((i : ℕ) (o : Owner) → slice_get owners i ≡ Some o → p o ≡ true → i < count → P (var (n + i))) → All P (made_from p count n owners)
all_from P p zero n owners each = nothing_all P
all_from P p (suc count) n [] each = nothing_all P
all_from P p (suc count) n (o ∷ owners) each =
    let first : n + 0 ≡ n = omega arith in
    all_if P (p o) (var n) (made_from p count (suc n) owners) (λ passes. subst (λ k. P (var k)) first (each 0 o refl passes (omega arith)))
    (all_from P p count (suc n) owners (λ i q there passes less.
    let later : n + suc i ≡ suc n + i = omega arith in
    subst (λ k. P (var k)) later (each (suc i) q there passes (omega (arith, less)))))

pairs_if : (b : Bool) (v : VarId) (vs : List VarId) → All (λ w. v.0 < w.0) vs → AllPairs (λ v w. v.0 < w.0) vs → AllPairs (λ v w. v.0 < w.0) (if b then v ∷ vs else vs)
pairs_if true v vs above pairs = AllPairs-cons (λ v w. v.0 < w.0) v vs above pairs
pairs_if false v vs above pairs = pairs

ascends_from : (p : Owner → Bool) (count n : ℕ) (owners : List Owner) → AllPairs (λ v w. v.0 < w.0) (made_from p count n owners)
ascends_from p zero n owners = nothing_ascends
ascends_from p (suc count) n [] = nothing_ascends
ascends_from p (suc count) n (o ∷ owners) =
    pairs_if (p o) (var n) (made_from p count (suc n) owners)
    (all_from (λ w. n < w.0) p count (suc n) owners (λ i q there passes less. omega arith)) (ascends_from p count (suc n) owners)

-- the list of those that pass a test which tells whose variables are meant
pub are_made : (g : Graph) (out a n k : ℕ) (Meant : ℕ → Type 0) (p : Owner → Bool)
    → ((x : ℕ) → Meant x → p (local out x) ≡ true) → ((o : Owner) → p o ≡ true → (x : ℕ) × Meant x × (o ≡ local out x))
    → AreMade g out Meant (stage a n k) (made_from p k 0 g.owners)
are_made g out a n k Meant p passing meant =
    record {
      ascending = ascends_from p k 0 g.owners;
      all = λ x v is made. found x v is made;
      only = all_from (λ v. (x : ℕ) × Meant x × IsMade g (local out x) v (stage a n k)) p k 0 g.owners (λ i o there passes less.
          let one : (x : ℕ) × Meant x × (o ≡ local out x) = meant o passes in
          let same : i ≡ 0 + i = omega arith in
          (one.0, one.1, subst (λ j. IsMade g (local out one.0) (var j) (stage a n k)) same (is_made (subst (λ q. slice_get g.owners i ≡ Some q) one.2 there) less)));
    }
  where
    found : (x : ℕ) (v : VarId) → Meant x → IsMade g (local out x) v (stage a n k) → Contains (made_from p k 0 g.owners) v
    found x v is (is_made there less) =
        let same : 0 + v.0 ≡ v.0 = omega arith in
        subst (λ i. Contains (made_from p k 0 g.owners) (var i)) same (found_from p k 0 v.0 g.owners (local out x) there (passing x is) less)

-- ---- of these numbers, and of all below a number
abbrev pub member : ℕ → List ℕ → Bool
member x [] = false
member x (y ∷ ys) = if eqb y x then true else member x ys

chosen : (b c : Bool) → (if b then true else c) ≡ true → (b ≡ true) ⊎ (c ≡ true)
chosen true c e = inl refl
chosen false c e = inr e

member_true : (x : ℕ) (xs : List ℕ) → member x xs ≡ true → Contains xs x
member_true x [] e = absurd (cc)
member_true x (y ∷ ys) e = elim (chosen (eqb y x) (member x ys) e) [
  | inl same ↦ (0, omega arith, eqb-true y x same)
  | inr later ↦ let there : Contains ys x = member_true x ys later in (suc there.0, omega (arith, there.1), there.2)
]

first_true : (b c : Bool) → b ≡ true → (if b then true else c) ≡ true
first_true true c e = refl
first_true false c e = absurd (cc)

later_true : (b c : Bool) → c ≡ true → (if b then true else c) ≡ true
later_true true c e = refl
later_true false c e = e

true_member : (x : ℕ) (xs : List ℕ) (i : ℕ) → i < length xs → slice_index_or xs i x ≡ x → member x xs ≡ true
true_member x [] i less there = absurd (omega (arith, less))
true_member x (y ∷ ys) zero less there = first_true (eqb y x) (member x ys) (eq-eqb y x there)
true_member x (y ∷ ys) (suc i) less there = later_true (eqb y x) (member x ys) (true_member x ys i (omega (arith, less)) there)

both_true : (b c : Bool) → b ≡ true → c ≡ true → (if b then c else false) ≡ true
both_true true c e k = k
both_true false c e k = absurd (cc)

true_both : (b c : Bool) → (if b then c else false) ≡ true → (b ≡ true) × (c ≡ true)
true_both true c e = (refl, e)
true_both false c e = absurd (cc)

abbrev pub is_listed : (out : ℕ) → List ℕ → Owner → Bool
is_listed out xs (local o x) = if eqb o out then member x xs else false
is_listed out xs (result o) = false
is_listed out xs (temporary j kind) = false

abbrev pub is_below : (out count : ℕ) → Owner → Bool
is_below out count (local o x) = if eqb o out then ltb x count else false
is_below out count (result o) = false
is_below out count (temporary j kind) = false

listed_means : (out : ℕ) (xs : List ℕ) (o : Owner) → is_listed out xs o ≡ true → (x : ℕ) × Contains xs x × (o ≡ local out x)
listed_means out xs (local o x) e =
    let both : (eqb o out ≡ true) × (member x xs ≡ true) = true_both (eqb o out) (member x xs) e in
    (x, member_true x xs both.1, ap (λ z. local z x) (eqb-true o out both.0))
listed_means out xs (result o) e = absurd (cc)
listed_means out xs (temporary j kind) e = absurd (cc)

below_means : (out count : ℕ) (o : Owner) → is_below out count o ≡ true → (x : ℕ) × (x < count) × (o ≡ local out x)
below_means out count (local o x) e =
    let both : (eqb o out ≡ true) × (ltb x count ≡ true) = true_both (eqb o out) (ltb x count) e in
    (x, ltb-true x count both.1, ap (λ z. local z x) (eqb-true o out both.0))
below_means out count (result o) e = absurd (cc)
below_means out count (temporary j kind) e = absurd (cc)

pub listed_made : {g : Graph} {out a n k : ℕ} (xs : List ℕ) → AreMade g out (λ x. Contains xs x) (stage a n k) (made_from (is_listed out xs) k 0 g.owners)
listed_made {g} {out} {a} {n} {k} xs =
    are_made g out a n k (λ x. Contains xs x) (is_listed out xs)
    (λ x is. both_true (eqb out out) (member x xs) (eq-eqb out out refl) (true_member x xs is.0 is.1 is.2)) (listed_means out xs)

pub below_made : {g : Graph} {out a n k : ℕ} (count : ℕ) → AreMade g out (λ x. x < count) (stage a n k) (made_from (is_below out count) k 0 g.owners)
below_made {g} {out} {a} {n} {k} count =
    are_made g out a n k (λ x. x < count) (is_below out count)
    (λ x is. both_true (eqb out out) (ltb x count) (eq-eqb out out refl) (lt-ltb x count is)) (below_means out count)
