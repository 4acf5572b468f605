-- Variables hold the same by their places and by their numbers.
use Rattle.std.proofs.Common.{◌≡◌, ◌<◌, ◌≢◌, ℕ, ℤ, Bool, true, false, ◌&&◌, List, [], ◌∷◌, Option, None, length, refl, sym, ap, ap₂, subst, ◌∙◌, arith, get_or, eqb-true, eq-eqb}
use Rattle.std.proofs.lemmas.List.{get_or-set_same, get_or-set_other, length-set}
use Rattle.std.proofs.lemmas.List.Sums.{passes_at_first}
use Rattle.mc_base.specs.declared.text.place.Place.{Place}
use Rattle.mc_c_types.specs.Tables.{Variable}
use Rattle.mc_c_types.specs.declared.types.VariableType.TheVariants.{Int}
use Rattle.mc_semantics.specs.Configs as named
use Rattle.mc_semantics.specs.Configs.{is_place}
use Rattle.mc_semantics.specs.Resolved.Configs.{Values, held, with_variable, without}
use Rattle.mc_semantics.specs.Resolved.Resolving.{number_in, numbers_in}
use Rattle.mc_semantics.specs.Resolved.Running.{IsKnown, AreKnown, Agree}

-- ---- places
pub both_true : (a b : Bool) → (a && b) ≡ true → (a ≡ true) × (b ≡ true)
both_true true b e = (refl, e)
both_true false b e = absurd (grind (arith, e))

pub place_of : (p q : Place) → is_place p q ≡ true → p ≡ q
place_of p q e =
    let sides = both_true _ _ e in
    ap₂ (λ (l c : ℕ). let r : Place = record { line = l; column = c } in r) (eqb-true p.line q.line sides.0) (eqb-true p.column q.column sides.1)

pub place_self : (p : Place) → is_place p p ≡ true
place_self p = rw (eq-eqb p.line p.line refl) (eq-eqb p.column p.column refl)

-- what a test of places comes to
pub same_or_not : {X : Type 0} (b : Bool) → (b ≡ true → X) → (b ≡ false → X) → X
same_or_not true hit miss = hit refl
same_or_not false hit miss = miss refl

-- known places with one number are one
pub one_place : (locals : List Variable) (p q : Place) → IsKnown locals p → IsKnown locals q → number_in locals p ≡ number_in locals q → p ≡ q
one_place locals p q known other same =
    let d : Variable = record { name = []; place = p; type = Int } in
    let first : is_place (get_or locals (number_in locals p) d).place p ≡ true = passes_at_first (λ v. is_place v.place p) locals d known in
    let second : is_place (get_or locals (number_in locals q) d).place q ≡ true = passes_at_first (λ v. is_place v.place q) locals d other in
    sym (place_of _ p first) ∙ ap (λ k. (get_or locals k d).place) same ∙ place_of _ q second

-- ---- what is set
set_alike : (locals : List Variable) (values : named.Values) (numbered : Values) (place : Place) (v : Option ℤ) → Agree locals values numbered → IsKnown locals place
    → (other : Place) → IsKnown locals other → held (with_variable numbered (number_in locals place) v) (number_in locals other) ≡ named.with_variable values place v other
set_alike locals values numbered place v agree known other is_known = same_or_not (is_place other place)
    (λ hit.
    let e : other ≡ place = place_of other place hit in
    let low : number_in locals place < length numbered = subst (λ n. number_in locals place < n) (sym agree.same_length) known in
    rw (hit, e) (get_or-set_same numbered (number_in locals place) v None low))
    (λ miss.
    let apart : number_in locals other ≢ number_in locals place = λ same.
    let e : other ≡ place = one_place locals other place is_known known same in
    let bad : true ≡ false = sym (place_self place) ∙ subst (λ z. is_place z place ≡ false) e miss in absurd (grind (arith, bad)) in
    rw miss (get_or-set_other numbered (number_in locals place) (number_in locals other) v None apart ∙ agree.same other is_known))

pub set_agree : (locals : List Variable) (values : named.Values) (numbered : Values) (place : Place) (v : Option ℤ) → Agree locals values numbered → IsKnown locals place
    → Agree locals (named.with_variable values place v) (with_variable numbered (number_in locals place) v)
set_agree locals values numbered place v agree known =
    record { same_length = length-set numbered (number_in locals place) v ∙ agree.same_length; same = set_alike locals values numbered place v agree known }

place_swap : (p q : Place) → is_place p q ≡ is_place q p
place_swap p q = same_or_not (is_place p q)
    (λ hit. let e : p ≡ q = place_of p q hit in subst (λ z. is_place p z ≡ is_place z p) e refl)
    (λ miss. same_or_not (is_place q p)
    (λ hit. let e : q ≡ p = place_of q p hit in subst (λ z. is_place z q ≡ is_place q z) e refl)
    (λ other. miss ∙ sym other))

-- a variable more is undefined
without_more : (v : Variable) (vs : List Variable) (values : named.Values) (place : Place)
    → named.with_variable (named.without vs values) v.place None place ≡ named.without (v ∷ vs) values place
without_more v vs values place = same_or_not (is_place v.place place)
    (λ hit. rw (place_swap place v.place, hit) refl)
    (λ miss. rw (place_swap place v.place, miss) refl)

pub without_agree : (locals : List Variable) (values : named.Values) (numbered : Values) (vs : List Variable) → Agree locals values numbered → AreKnown locals vs
    → Agree locals (named.without vs values) (without (numbers_in locals vs) numbered)
without_agree locals values numbered [] agree known = record { same_length = agree.same_length; same = agree.same }
without_agree locals values numbered (v ∷ vs) agree known =
    let before : Agree locals (named.without vs values) (without (numbers_in locals vs) numbered) = without_agree locals values numbered vs agree known.1 in
    let set : Agree locals (named.with_variable (named.without vs values) v.place None) (without (numbers_in locals (v ∷ vs)) numbered) =
    set_agree locals (named.without vs values) (without (numbers_in locals vs) numbered) v.place None before known.0 in
    record { same_length = set.same_length; same = λ place is_known. set.same place is_known ∙ without_more v vs values place }
