-- The number of a variable is its place among the variables of its function.
use Rattle.std.proofs.Common.{◌≡◌, ◌<◌, ℕ, zero, suc, true, false, List, [], ◌∷◌, ◌++◌, map, length, refl, sym, ap, subst, ◌∙◌, arith, get_or, Contains, ⊎_elim}
use Rattle.std.proofs.lemmas.List.Sums.{passes_at_first}
use Rattle.mc_base.specs.declared.text.place.Place.{Place}
use Rattle.mc_c_types.specs.Tables.{Variable}
use Rattle.mc_c_types.specs.declared.types.VariableType.TheVariants.{Int}
use Rattle.mc_semantics.specs.Configs.{is_place}
use Rattle.mc_semantics.specs.Resolved.Resolving.{number_in, numbers_in}
use Rattle.mc_lower_laws.proofs.ScopedLemmas.Lists.{Apart, apart_at, mapped, unmapped, contains_none, contains_head, contains_tail, contains_cases}
use Rattle.mc_semantics.proofs.ResolvedLemmas.Holding.{place_of, place_self, same_or_not}

-- ---- places
-- known places with one number are one
one_place : (locals : List Variable) (p q : Place) → number_in locals p < length locals → number_in locals q < length locals → number_in locals p ≡ number_in locals q → p ≡ q
one_place locals p q known other same =
    let d : Variable = record { name = []; place = p; type = Int } in
    let first : is_place (get_or locals (number_in locals p) d).place p ≡ true = passes_at_first (λ v. is_place v.place p) locals d known in
    let second : is_place (get_or locals (number_in locals q) d).place q ≡ true = passes_at_first (λ v. is_place v.place q) locals d other in
    sym (place_of _ p first) ∙ ap (λ k. (get_or locals k d).place) same ∙ place_of _ q second

-- ---- each variable of the function has a number
known_at : (locals : List Variable) (p : Place) → Contains (map (λ v. v.place) locals) p → number_in locals p < length locals
known_at [] p there = absurd (contains_none p there)
known_at (v ∷ vs) p there = same_or_not (is_place v.place p)
    (λ hit. rw hit (omega arith))
    (λ miss.
    let more : Contains (map (λ v. v.place) vs) p = ⊎_elim
    (λ e. let bad : true ≡ false = sym (place_self p) ∙ subst (λ z. is_place z p ≡ false) e miss in absurd (grind (arith, bad)))
    (λ later. later)
    (contains_cases v.place (map (λ v. v.place) vs) p there) in
    rw miss (omega (arith, known_at vs p more)))

pub known : (locals : List Variable) (v : Variable) → Contains locals v → number_in locals v.place < length locals
known locals v there = known_at locals v.place (mapped (λ v. v.place) locals v there)

pub numbers_known : (locals vs : List Variable) → ((v : Variable) → Contains vs v → Contains locals v) → (x : ℕ) → Contains (numbers_in locals vs) x → x < length locals
numbers_known locals vs among x there =
    let found = unmapped (λ v. number_in locals v.place) vs x there in
    subst (λ z. z < length locals) found.2 (known locals found.0 (among found.0 found.1))

-- ---- variables at different places have different numbers
pub numbers_apart : (locals vs : List Variable) → ((v : Variable) → Contains vs v → Contains locals v) → Apart (map (λ v. v.place) vs) → Apart (numbers_in locals vs)
numbers_apart locals [] among apart = tt
numbers_apart locals (v ∷ vs) among apart = (
  λ there.
      let found = unmapped (λ w. number_in locals w.place) vs (number_in locals v.place) there in
      let same : found.0.place ≡ v.place = one_place locals found.0.place v.place
      (known locals found.0 (among found.0 (contains_tail v vs found.0 found.1)))
      (known locals v (among v (contains_head v vs))) found.2 in
      apart.0 (subst (λ z. Contains (map (λ w. w.place) vs) z) same (mapped (λ w. w.place) vs found.0 found.1)),
  numbers_apart locals vs (λ w there. among w (contains_tail v vs w there)) apart.1,
)

-- ---- a variable at a position has that number
map_at : (vs : List Variable) (i : ℕ) (d : Variable) → i < length vs → get_or (map (λ v. v.place) vs) i d.place ≡ (get_or vs i d).place
map_at [] i d less = absurd (omega (arith, less))
map_at (v ∷ vs) zero d less = refl
map_at (v ∷ vs) (suc i) d less = map_at vs i d (omega (arith, less))

length_map : (vs : List Variable) → length (map (λ v. v.place) vs) ≡ length vs
length_map [] = refl
length_map (v ∷ vs) = ap suc (length_map vs)

same_at : (vs : List Variable) (i : ℕ) (d e : Variable) → i < length vs → get_or vs i d ≡ get_or vs i e
same_at [] i d e less = absurd (omega (arith, less))
same_at (v ∷ vs) zero d e less = refl
same_at (v ∷ vs) (suc i) d e less = same_at vs i d e (omega (arith, less))

in_at : (vs : List Variable) (i : ℕ) (d : Variable) → i < length vs → Contains vs (get_or vs i d)
in_at vs i d less = (i, less, same_at vs i (get_or vs i d) d less)

pub number_at : (locals : List Variable) (i : ℕ) (d : Variable) → Apart (map (λ v. v.place) locals) → i < length locals → number_in locals (get_or locals i d).place ≡ i
number_at locals i d apart less =
    let p : Place = (get_or locals i d).place in
    let low : number_in locals p < length locals = known locals (get_or locals i d) (in_at locals i d less) in
    let hit : (get_or locals (number_in locals p) d).place ≡ p = place_of _ p (passes_at_first (λ v. is_place v.place p) locals d low) in
    let places : get_or (map (λ v. v.place) locals) (number_in locals p) d.place ≡ get_or (map (λ v. v.place) locals) i d.place =
    map_at locals (number_in locals p) d low ∙ hit ∙ sym (map_at locals i d less) in
    apart_at (map (λ v. v.place) locals) (number_in locals p) i d.place apart
    (subst (λ n. number_in locals p < n) (sym (length_map locals)) low) (subst (λ n. i < n) (sym (length_map locals)) less) places

-- the first variables have the first numbers
at_left : (vs ws : List Variable) (i : ℕ) (d : Variable) → i < length vs → get_or (vs ++ ws) i d ≡ get_or vs i d
at_left [] ws i d less = absurd (omega (arith, less))
at_left (v ∷ vs) ws zero d less = refl
at_left (v ∷ vs) ws (suc i) d less = at_left vs ws i d (omega (arith, less))

first_below : (vs ws : List Variable) (d : Variable) → Apart (map (λ v. v.place) (vs ++ ws)) → (x : ℕ) → x < length vs → x < length (vs ++ ws)
    → Contains (numbers_in (vs ++ ws) vs) x
first_below vs ws d apart x less longer =
    let e : number_in (vs ++ ws) (get_or vs x d).place ≡ x = subst (λ w. number_in (vs ++ ws) w.place ≡ x) (at_left vs ws x d less) (number_at (vs ++ ws) x d apart longer) in
    subst (λ z. Contains (numbers_in (vs ++ ws) vs) z) e (mapped (λ v. number_in (vs ++ ws) v.place) vs (get_or vs x d) (in_at vs x d less))

longer_than : (vs ws : List Variable) (x : ℕ) → x < length vs → x < length (vs ++ ws)
longer_than [] ws x less = absurd (omega (arith, less))
longer_than (v ∷ vs) ws zero less = omega arith
longer_than (v ∷ vs) ws (suc x) less = omega (arith, longer_than vs ws x (omega (arith, less)))

pub first_numbers : (vs ws : List Variable) → Apart (map (λ v. v.place) (vs ++ ws)) → (x : ℕ) → x < length vs → Contains (numbers_in (vs ++ ws) vs) x
first_numbers [] ws apart x less = absurd (omega (arith, less))
first_numbers (v ∷ vs) ws apart x less = first_below (v ∷ vs) ws v apart x less (longer_than (v ∷ vs) ws x less)
