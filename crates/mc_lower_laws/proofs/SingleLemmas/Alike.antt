-- Two flow graphs that are made alike so far.
use Rattle.std.proofs.Common.{◌≡◌, ◌≤◌, ◌<◌, ℕ, Some, Bool, true, false, cond, eqb, refl, sym, ap, ◌∙◌, inl, inr, arith, eq-eqb, eqb-true}
use Rattle.std.proofs.lemmas.Bool.{cases_lt}
use Rattle.std.specs.Prelude.{slice_get, option_map}
use Rattle.mc_base.specs.declared.plain.Kind.{Kind}
use Rattle.mc_base.specs.declared.text.place.Place.{Place}
use Rattle.mc_flow.specs.declared.instr.Instr.{Instr}
use Rattle.mc_lower_spec.proofs.Stages.{goal_of, points_of, variables_of}
use Rattle.mc_lower_spec.specs.Graphs.{Graph, Owner, local, result, temporary, Role, Stage, IsPoint}

-- ---- owners, seen from an occurrence
pub data Seen : Type 0 where
  own_local : ℕ → Seen
  own_result : Seen
  a_temporary : ℕ → Kind → Seen
  another : Seen

abbrev pub seen : ℕ → Owner → Seen
seen out (local o x) = cond (eqb o out) (own_local x) another
seen out (result o) = cond (eqb o out) own_result another
seen out (temporary j kind) = a_temporary j kind

abbrev pub number_of : Seen → ℕ
number_of (own_local x) = x
number_of own_result = 0
number_of (a_temporary j kind) = j
number_of another = 0

pub local_seen : (out x : ℕ) → seen out (local out x) ≡ own_local x
local_seen out x = ap (λ b. cond b (own_local x) another) (eq-eqb out out refl)

pub result_seen : (out : ℕ) → seen out (result out) ≡ own_result
result_seen out = ap (λ b. cond b own_result another) (eq-eqb out out refl)

local_if : (b : Bool) (o out x y : ℕ) → eqb o out ≡ b → cond b (own_local y) another ≡ own_local x → local o y ≡ local out x
local_if true o out x y same is = let e : o ≡ out = eqb-true o out same in let d : y ≡ x = ap number_of is in cc
local_if false o out x y same is = absurd (cc is)

no_local_if : (b : Bool) (x : ℕ) → cond b own_result another ≡ own_local x → ⊥
no_local_if true x is = cc is
no_local_if false x is = cc is

-- a variable that is seen as one of this occurrence is one
pub local_from_seen : (out x : ℕ) (w : Owner) → seen out w ≡ own_local x → w ≡ local out x
local_from_seen out x (local o y) is = local_if (eqb o out) o out x y refl is
local_from_seen out x (result o) is = absurd (no_local_if (eqb o out) x is)
local_from_seen out x (temporary j kind) is = absurd (cc is)

result_if : (b : Bool) (o out : ℕ) → eqb o out ≡ b → cond b own_result another ≡ own_result → result o ≡ result out
result_if true o out same is = ap result (eqb-true o out same)
result_if false o out same is = absurd (cc is)

no_result_if : (b : Bool) (x : ℕ) → cond b (own_local x) another ≡ own_result → ⊥
no_result_if true x is = cc is
no_result_if false x is = cc is

pub result_from_seen : (out : ℕ) (w : Owner) → seen out w ≡ own_result → w ≡ result out
result_from_seen out (local o y) is = absurd (no_result_if (eqb o out) y is)
result_from_seen out (result o) is = result_if (eqb o out) o out refl is
result_from_seen out (temporary j kind) is = absurd (cc is)

no_temporary_if : (b : Bool) (s : Seen) (j : ℕ) (kind : Kind) → (s ≡ a_temporary j kind → ⊥) → cond b s another ≡ a_temporary j kind → ⊥
no_temporary_if true s j kind other is = other is
no_temporary_if false s j kind other is = cc is

abbrev kind_or : Kind → Seen → Kind
kind_or other (own_local x) = other
kind_or other own_result = other
kind_or other (a_temporary j kind) = kind
kind_or other another = other

pub temporary_from_seen : (out j : ℕ) (kind : Kind) (w : Owner) → seen out w ≡ a_temporary j kind → w ≡ temporary j kind
temporary_from_seen out j kind (local o y) is = absurd (no_temporary_if (eqb o out) (own_local y) j kind (λ e. cc e) is)
temporary_from_seen out j kind (result o) is = absurd (no_temporary_if (eqb o out) own_result j kind (λ e. cc e) is)
temporary_from_seen out j kind (temporary i other) is = let d : i ≡ j = ap number_of is in let e : other ≡ kind = ap (kind_or other) is in cc

-- ---- what is alike
-- two graphs of one program with the same structs, in which no variable is made twice
pub record Setting (g h : Graph) : Type 0 where
  pub program : g.program ≡ h.program
  pub structs : g.flow.structs ≡ h.flow.structs
  pub once : (owner : Owner) (v w : ℕ) → slice_get g.owners v ≡ Some owner → slice_get g.owners w ≡ Some owner → v ≡ w
  pub once_too : (owner : Owner) (v w : ℕ) → slice_get h.owners v ≡ Some owner → slice_get h.owners w ≡ Some owner → v ≡ w

-- the first k variables, seen from an occurrence in the one and from an occurrence in the other
pub record Alike (g h : Graph) (out left k : ℕ) : Type 0 where
  pub infos : (i : ℕ) → i < k → slice_get g.flow.vars i ≡ slice_get h.flow.vars i
  pub owners : (i : ℕ) → i < k → option_map (seen out) (slice_get g.owners i) ≡ option_map (seen left) (slice_get h.owners i)

pub record Meets (g h : Graph) (out left : ℕ) (s r : Stage) : Type 0 where
  pub points : points_of s ≡ points_of r
  pub variables : variables_of s ≡ variables_of r
  pub alike : Alike g h out left (variables_of s)

pub record SamePoint (g h : Graph) (i : ℕ) : Type 0 where
  pub point : slice_get g.flow.points i ≡ slice_get h.flow.points i
  pub role : slice_get g.roles i ≡ slice_get h.roles i

abbrev pub SamePoints : Graph → Graph → (p n : ℕ) → Type 0
SamePoints g h p n = (i : ℕ) → p ≤ i → i < n → SamePoint g h i

-- two steps from s to u and from r to w: they end alike, and where what is after them begins at the same point, they are the same points
pub record Goes (g h : Graph) (out left : ℕ) (Same : Type 0) (s u r w : Stage) : Type 0 where
  pub meets : Meets g h out left u w
  pub back : Same → goal_of u ≡ goal_of w → (goal_of s ≡ goal_of r) × SamePoints g h (points_of s) (points_of u)

pub on : {g h : Graph} {out left : ℕ} {Same : Type 0} {s m u r l w : Stage} → Goes g h out left Same s m r l → Goes g h out left Same m u l w → Goes g h out left Same s u r w
on {m = m} first second =
    record {
      meets = second.meets;
      back = λ same goal.
          let (middle, later) = second.back same goal in
          let (begin, early) = first.back same middle in (
            begin,
            λ i low high. elim (cases_lt i (points_of m)) [
              | inl before ↦ early i low before
              | inr behind ↦ later i (omega (arith, behind)) high
            ],
          );
    }

pub stays : {g h : Graph} {out left : ℕ} {Same : Type 0} {s r : Stage} → Meets g h out left s r → Goes g h out left Same s s r r
stays meets = record { meets = meets; back = λ same goal. (goal, λ i low high. absurd (omega (arith, low, high))) }

pub through : {g h : Graph} {out left : ℕ} {Same Other : Type 0} {s u r w : Stage} → (Other → Same) → Goes g h out left Same s u r w → Goes g h out left Other s u r w
through from steps = record { meets = steps.meets; back = λ other goal. steps.back (from other) goal }

-- ---- points
pub same_point : {g h : Graph} {n i : ℕ} {role : Role} {place : Place} {code other : Instr} → IsPoint g n role place code → IsPoint h n role place other → code ≡ other → i ≡ n → SamePoint g h i
same_point {g = g} {h = h} {n = n} {place = place} one two same here =
    let at : slice_get g.flow.points n ≡ slice_get h.flow.points n = one.there ∙ ap (λ c. Some (record { code = c; place = place })) same ∙ sym two.there in
    let role : slice_get g.roles n ≡ slice_get h.roles n = one.is ∙ sym two.is in
    record { point = ap (λ j. slice_get g.flow.points j) here ∙ at ∙ ap (λ j. slice_get h.flow.points j) (sym here); role = ap (λ j. slice_get g.roles j) here ∙ role ∙ ap (λ j. slice_get h.roles j) (sym here) }
