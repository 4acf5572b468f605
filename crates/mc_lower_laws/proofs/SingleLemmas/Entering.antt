-- What is alike, seen from one occurrence and from another.
use Rattle.std.proofs.Common.{◌≡◌, ◌≤◌, ◌<◌, ℕ, Option, Some, None, Bool, true, false, cond, eqb, refl, sym, ap, ◌∙◌, inl, inr, arith, eqb-true}
use Rattle.std.proofs.lemmas.Bool.{cases_lt}
use Rattle.std.proofs.lemmas.Option.{same_Some}
use Rattle.std.specs.Prelude.{slice_get, option_map}
use Rattle.mc_lower_spec.specs.Graphs.{Graph, Owner, local, result, temporary, Stage}
use Rattle.mc_lower_spec.proofs.Stages.{variables_of}
use Rattle.mc_lower_laws.proofs.SingleLemmas.Alike.{own_local, own_result, another, seen, temporary_from_seen, Alike, Goes}
use Rattle.mc_lower_spec.proofs.Owning.{occurrence, IsOwned}

-- ---- what is free
-- no variable made before belongs to an occurrence whose `return` goes to a point between these, and what is made goes no further than the occurrence itself
pub record Inside (g : Graph) (out p v n : ℕ) : Type 0 where
  pub free : (i o : ℕ) (x : Owner) → slice_get g.owners i ≡ Some x → occurrence x ≡ Some o → i < v → p ≤ o → o < n → ⊥
  pub bound : n ≤ out

pub first_part : {g : Graph} {out p v m n : ℕ} → Inside g out p v n → m ≤ n → Inside g out p v m
first_part f less = record { free = λ i o x is of within low high. f.free i o x is of within low (omega (arith, less, high)); bound = omega (arith, less, f.bound) }

pub second_part : {g : Graph} {out p v n m j : ℕ} → Inside g out p v n → IsOwned occurrence g out p v m j → Inside g out m j n
second_part {v = v} f before =
    record {
      free = λ i o x is of within low high. elim (cases_lt i v) [
        | inl old ↦ f.free i o x is of old (omega (arith, low, before.points)) high
        | inr new ↦ elim (before.owned i o x is of new within) [
          | inl own ↦ omega (arith, own, f.bound, high)
          | inr inner ↦ omega (arith, inner.1, low)
        ]
      ];
      bound = f.bound;
    }

-- ---- what is seen from elsewhere
-- these variables do not belong to the occurrence
abbrev pub NoneOf : Graph → (out v k : ℕ) → Type 0
NoneOf g out v k = (i : ℕ) (x : Owner) → slice_get g.owners i ≡ Some x → occurrence x ≡ Some out → v ≤ i → i < k → ⊥

no_local : (b : Bool) (o out x : ℕ) → eqb o out ≡ b → (Some o ≡ Some out → ⊥) → cond b (own_local x) another ≡ another
no_local true o out x same apart = absurd (apart (ap (λ z. Some z) (eqb-true o out same)))
no_local false o out x same apart = refl

no_result : (b : Bool) (o out : ℕ) → eqb o out ≡ b → (Some o ≡ Some out → ⊥) → cond b own_result another ≡ another
no_result true o out same apart = absurd (apart (ap (λ z. Some z) (eqb-true o out same)))
no_result false o out same apart = refl

-- owners that are the same to these occurrences and belong to none of those are the same to those
owner_elsewhere : (out left inner within : ℕ) (x y : Owner) → seen out x ≡ seen left y → (occurrence x ≡ Some inner → ⊥) → (occurrence y ≡ Some within → ⊥) → seen inner x ≡ seen within y
owner_elsewhere out left inner within (local o n) (local p m) same apart too = no_local (eqb o inner) o inner n refl apart ∙ sym (no_local (eqb p within) p within m refl too)
owner_elsewhere out left inner within (local o n) (result p) same apart too = no_local (eqb o inner) o inner n refl apart ∙ sym (no_result (eqb p within) p within refl too)
owner_elsewhere out left inner within (local o n) (temporary j kind) same apart too = let never = temporary_from_seen out j kind (local o n) same in absurd (cc never)
owner_elsewhere out left inner within (result o) (local p m) same apart too = no_result (eqb o inner) o inner refl apart ∙ sym (no_local (eqb p within) p within m refl too)
owner_elsewhere out left inner within (result o) (result p) same apart too = no_result (eqb o inner) o inner refl apart ∙ sym (no_result (eqb p within) p within refl too)
owner_elsewhere out left inner within (result o) (temporary j kind) same apart too = let never = temporary_from_seen out j kind (result o) same in absurd (cc never)
owner_elsewhere out left inner within (temporary j kind) (local p m) same apart too = let never = temporary_from_seen left j kind (local p m) (sym same) in absurd (cc never)
owner_elsewhere out left inner within (temporary j kind) (result p) same apart too = let never = temporary_from_seen left j kind (result p) (sym same) in absurd (cc never)
owner_elsewhere out left inner within (temporary j kind) (temporary i other) same apart too = same

owners_elsewhere : (out left inner within : ℕ) (o p : Option Owner) → option_map (seen out) o ≡ option_map (seen left) p → ((x : Owner) → o ≡ Some x → occurrence x ≡ Some inner → ⊥)
    → ((y : Owner) → p ≡ Some y → occurrence y ≡ Some within → ⊥) → option_map (seen inner) o ≡ option_map (seen within) p
owners_elsewhere out left inner within None None same apart too = refl
owners_elsewhere out left inner within None (Some y) same apart too = absurd (cc same)
owners_elsewhere out left inner within (Some x) None same apart too = absurd (cc same)
owners_elsewhere out left inner within (Some x) (Some y) same apart too =
    ap (λ z. Some z) (owner_elsewhere out left inner within x y (same_Some (seen out x) (seen left y) same) (apart x refl) (too y refl))

-- what is alike to an occurrence, and then to another one while no variable is made for the first, is alike to the first
pub elsewhere : {g h : Graph} {out left inner within v k : ℕ} → Alike g h inner within v → Alike g h out left k → NoneOf g inner v k → NoneOf h within v k → Alike g h inner within k
elsewhere {g = g} {h = h} {out = out} {left = left} {inner = inner} {within = within} {v = v} before after none none_too =
    record {
      infos = after.infos;
      owners = λ i less. elim (cases_lt i v) [
        | inl old ↦ before.owners i old
        | inr new ↦ owners_elsewhere out left inner within (slice_get g.owners i) (slice_get h.owners i) (after.owners i less)
            (λ x is of. none i x is of (omega (arith, new)) less) (λ x is of. none_too i x is of (omega (arith, new)) less)
      ];
    }

pub none_yet : {g h : Graph} {out left : ℕ} → Alike g h out left 0
none_yet = record { infos = λ i less. absurd (omega (arith, less)); owners = λ i less. absurd (omega (arith, less)) }

-- the same steps, seen from elsewhere
pub viewed : {g h : Graph} {out left inner within : ℕ} {Same : Type 0} {s u r w : Stage} → Alike g h inner within (variables_of u) → Goes g h out left Same s u r w → Goes g h inner within Same s u r w
viewed alike steps = record { meets = record { points = steps.meets.points; variables = steps.meets.variables; alike = alike }; back = steps.back }
