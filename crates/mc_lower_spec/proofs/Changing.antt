-- What simple statements do: the variables are as those of a statement without temporaries.
use Rattle.std.proofs.Common.{◌<◌, ◌≡◌, ◌⊎◌, inl, inr, ℕ, zero, suc, ℤ, List, [], ◌∷◌, Option, Some, None, length, refl, sym, ap, ◌∙◌, subst, arith}
use Rattle.std.specs.Prelude.{slice_get, slice_index_or, slice_set, Contains}
use Rattle.std.proofs.Math.Decide.{dec_lt}
use Rattle.mc_base.specs.declared.ids.VarId.{VarId}
use Rattle.mc_base.specs.declared.plain.Kind.{Kind}
use Rattle.mc_flow.specs.Runs.{next}
use Rattle.mc_base.specs.declared.text.place.Place.{Place}
use Rattle.mc_flow.specs.Heap.Heap.{Heap}
use Rattle.mc_flow.specs.Heap.Choices.{Choice}
use Rattle.mc_flow.specs.Values.{value_in, with_value, without as flow_without}
use Rattle.mc_flow.specs.declared.instr.Instr.TheVariants.{Undef}
use Rattle.mc_flow.specs.Steps.{Config}
use Rattle.mc_lower_spec.specs.Graphs.{Graph, temporary, Stage, point, appends, Undefines, undefines_none, undefines}
use Rattle.mc_lower_spec.specs.Runs.{FlowStep}
use Rattle.mc_lower_spec.proofs.Simulating.{Goes, one, more}
use Rattle.mc_lower_spec.proofs.Stepping.{Vars, at, step_at}
use Rattle.mc_lower_spec.proofs.Stages.{goal_of}
use Rattle.mc_lower_spec.proofs.Evaluating.{AreTemporaries, OnlyNew, set_here, set_elsewhere}

-- ---- lists of variables
-- two lists of one length with the same at each number are one
pub same_list : (xs ys : Vars) → length xs ≡ length ys → ((i : ℕ) → slice_index_or xs i None ≡ slice_index_or ys i None) → xs ≡ ys
same_list [] [] e each = refl
same_list [] (y ∷ ys) e each = absurd (omega (arith, e))
same_list (x ∷ xs) [] e each = absurd (omega (arith, e))
same_list (x ∷ xs) (y ∷ ys) e each =
    let rest : xs ≡ ys = same_list xs ys (omega (arith, e)) (λ i. each (suc i)) in
    ap (λ z. z ∷ xs) (each 0) ∙ ap (λ zs. y ∷ zs) rest

pub length_set : (vars : Vars) (n : ℕ) (w : Option ℤ) → length (slice_set vars n w) ≡ length vars
length_set [] n w = refl
length_set (x ∷ vars) zero w = refl
length_set (x ∷ vars) (suc n) w = ap suc (length_set vars n w)

pub length_without : (us : List VarId) (vars : Vars) → length (flow_without vars us) ≡ length vars
length_without [] vars = refl
length_without (u ∷ us) vars = length_without us (with_value vars u None) ∙ length_set vars u.0 None

-- a variable is one of these, or none of them
pub same_number : (i j : ℕ) → (i ≡ j) ⊎ (i ≡ j → ⊥)
same_number zero zero = inl refl
same_number zero (suc j) = inr (λ e. omega (arith, e))
same_number (suc i) zero = inr (λ e. omega (arith, e))
same_number (suc i) (suc j) = elim (same_number i j) [
  | inl e ↦ inl (ap suc e)
  | inr no_one ↦ inr (λ e. no_one (omega (arith, e)))
]

pub same_variable : (u v : VarId) → (u ≡ v) ⊎ (u ≡ v → ⊥)
same_variable u v = elim (same_number u.0 v.0) [
  | inl e ↦ inl (ap (λ n. record { 0 = n }) e)
  | inr apart ↦ inr (λ e. apart (ap (λ (z : VarId). z.0) e))
]

contains_later : (v w : VarId) (vs : List VarId) → Contains vs w → Contains (v ∷ vs) w
contains_later v w vs there = (suc there.0, omega (arith, there.1), there.2)

pub in_or_not : (v : VarId) (us : List VarId) → Contains us v ⊎ (Contains us v → ⊥)
in_or_not v [] = inr (λ there. omega (arith, there.1))
in_or_not v (u ∷ us) = elim (same_variable u v) [
  | inl e ↦ inl (0, omega arith, e)
  | inr apart ↦ elim (in_or_not v us) [
    | inl there ↦ inl (contains_later u v us there)
    | inr absent ↦ inr (neither u us apart absent)
  ]
]
  where
    neither : (u : VarId) (us : List VarId) → (u ≡ v → ⊥) → (Contains us v → ⊥) → Contains (u ∷ us) v → ⊥
    neither u us apart absent (zero, less, e) = apart e
    neither u us apart absent (suc k, less, e) = absent (k, omega (arith, less), e)

-- a variable that is undefined, be it there or not
within_or : (n : ℕ) (vars : Vars) → (n < length vars) ⊎ (length vars < suc n)
within_or n vars = elim (dec_lt n (length vars)) [ yes h ↦ inl h | no h ↦ inr (omega (arith, h)) ]

pub past_none : (vars : Vars) (n : ℕ) → length vars < suc n → slice_index_or vars n None ≡ None
past_none [] n past = refl
past_none (x ∷ vars) zero past = absurd (omega (arith, past))
past_none (x ∷ vars) (suc n) past = past_none vars n (omega (arith, past))

pub set_none : (vars : Vars) (v : VarId) → value_in (with_value vars v None) v ≡ None
set_none vars v = elim (within_or v.0 vars) [
  | inl within ↦ set_here vars v None within
  | inr past ↦ past_none (with_value vars v None) v.0 (omega (arith, past, length_set vars v.0 None))
]

stays_none : (us : List VarId) (vars : Vars) (v : VarId) → value_in vars v ≡ None → value_in (flow_without vars us) v ≡ None
stays_none [] vars v none = none
stays_none (u ∷ us) vars v none = stays_none us (with_value vars u None) v (elim (same_variable u v) [
  | inl e ↦ subst (λ z. value_in (with_value vars z None) v ≡ None) (sym e) (set_none vars v)
  | inr apart ↦ set_elsewhere vars u v None apart ∙ none
])

pub without_in : (us : List VarId) (vars : Vars) (v : VarId) → Contains us v → value_in (flow_without vars us) v ≡ None
without_in [] vars v there = absurd (omega (arith, there.1))
without_in (u ∷ us) vars v (zero, less, e) = stays_none us (with_value vars u None) v (subst (λ z. value_in (with_value vars u None) z ≡ None) e (set_none vars u))
without_in (u ∷ us) vars v (suc k, less, e) = without_in us (with_value vars u None) v (k, omega (arith, less), e)

pub without_out : (us : List VarId) (vars : Vars) (v : VarId) → (Contains us v → ⊥) → value_in (flow_without vars us) v ≡ value_in vars v
without_out [] vars v absent = refl
without_out (u ∷ us) vars v absent =
    without_out us (with_value vars u None) v (λ there. absent (contains_later u v us there)) ∙ set_elsewhere vars u v None (λ e. absent (0, omega arith, e))

-- ---- after the Undef of the temporaries
-- between statements no temporary has a value
abbrev pub IsClean : Graph → Vars → Type 0
IsClean g vars = (v : VarId) (j : ℕ) (kind : Kind) → slice_get g.owners v.0 ≡ Some (temporary j kind) → value_in vars v ≡ None

absent_none : (u : VarId) → Contains {X = VarId} [] u → ⊥
absent_none u there = omega (arith, there.1)

-- nothing is changed
pub restored : (g : Graph) (us : List VarId) (vars later : Vars) → AreTemporaries g us → OnlyNew [] us vars later → IsClean g vars → flow_without later us ≡ vars
restored g us vars later are new clean = same_list (flow_without later us) vars (length_without us later ∙ new.long) (λ i. at_number (record { 0 = i }))
  where
    at_number : (v : VarId) → value_in (flow_without later us) v ≡ value_in vars v
    at_number v = elim (in_or_not v us) [
      | inl there ↦ let one_is : (j : ℕ) × (k : Kind) × (j < length us) × (slice_get g.owners v.0 ≡ Some (temporary j k)) = are.each v there in
          without_in us later v there ∙ sym (clean v one_is.0 one_is.1 one_is.3)
      | inr absent ↦ without_out us later v absent ∙ new.same v (λ there. absurd (absent there))
    ]

-- only the variable that was set is changed
pub cleaned : (g : Graph) (us : List VarId) (vars later : Vars) (x : VarId) (w : Option ℤ) → AreTemporaries g us → OnlyNew [] us vars later → IsClean g vars
    → x.0 < length vars → (Contains us x → ⊥) → flow_without (with_value later x w) us ≡ with_value vars x w
cleaned g us vars later x w are new clean within free =
    same_list (flow_without (with_value later x w) us) (with_value vars x w)
    (length_without us (with_value later x w) ∙ length_set later x.0 w ∙ new.long ∙ sym (length_set vars x.0 w)) (λ i. at_number (record { 0 = i }))
  where
    at_number : (v : VarId) → value_in (flow_without (with_value later x w) us) v ≡ value_in (with_value vars x w) v
    at_number v = elim (in_or_not v us) [
      | inl there ↦ let one_is : (j : ℕ) × (k : Kind) × (j < length us) × (slice_get g.owners v.0 ≡ Some (temporary j k)) = are.each v there in
          without_in us (with_value later x w) v there ∙ sym (set_elsewhere vars x v w (λ e. free (subst (λ z. Contains us z) (sym e) there)) ∙ clean v one_is.0 one_is.1 one_is.3)
      | inr absent ↦ without_out us (with_value later x w) v absent ∙ elim (same_variable x v) [
        | inl e ↦ subst (λ z. value_in (with_value later x w) z ≡ value_in (with_value vars x w) z) e
            (set_here later x w (omega (arith, within, new.long)) ∙ sym (set_here vars x w within))
        | inr apart ↦ set_elsewhere later x v w apart ∙ new.same v (λ there. absurd (absent there)) ∙ sym (set_elsewhere vars x v w apart)
      ]
    ]

-- a step, and the Undef of the temporaries after it
pub undefines_goes : {g : Graph} {place : Place} {us : List VarId} {s u : Stage} (c : Config) (heap : Heap) (choices left : List Choice) (mid : Vars) → Undefines g place us s u
    → FlowStep g c choices (next (at (goal_of s) mid heap) left) → Goes (FlowStep g) c choices (next (at (goal_of u) (flow_without mid us) heap) left)
undefines_goes c heap choices left mid undefines_none step = one step
undefines_goes {g} {place} c heap choices left mid (undefines {v = v} {vs = vs} (appends {n = n} {b = b} is)) step =
    more step (one (step_at g n place (Undef (v ∷ vs) (point b)) mid heap left (next (at b (flow_without mid (v ∷ vs)) heap) left) is refl))
