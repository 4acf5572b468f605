-- Steps that are made alike, one after the other.
use Rattle.std.proofs.Common.{◌≡◌, ℕ, suc, refl, sym, ap, subst, inl, inr, arith}
use Rattle.std.proofs.lemmas.Bool.{cases_lt}
use Rattle.mc_base.specs.declared.text.place.Place.{Place}
use Rattle.mc_base.specs.declared.ids.VarId.{VarId}
use Rattle.mc_flow.specs.declared.instr.Instr.{Instr}
use Rattle.mc_semantics.specs.Resolved.Programs.{Left, Right, expression, result_of, allocation}
use Rattle.mc_lower_spec.specs.Graphs.{Graph, Role, Stage, stage, IsPoint}
use Rattle.mc_lower_spec.specs.Lowering.{SetsTo, sets_operand, sets_computed, sets_allocated, Assigns, assigns_variable, assigns_field, assigns_allocated}
use Rattle.mc_lower_spec.proofs.Stages.{goal_of, points_of}
use Rattle.mc_lower_laws.proofs.SingleLemmas.Alike.{Meets, SamePoints, Goes, same_point}
use Rattle.mc_lower_laws.proofs.SingleLemmas.Values.{Tells}

pub joined : {g h : Graph} {p m n : ℕ} → SamePoints g h p m → SamePoints g h m n → SamePoints g h p n
joined {m = m} early later = λ i low high. elim (cases_lt i m) [
  | inl before ↦ early i low before
  | inr behind ↦ later i (omega (arith, behind)) high
]

-- what is first goes on elsewhere
pub jumps : {g h : Graph} {out left : ℕ} {Same Other : Type 0} {s m n u r l o w : Stage} → Goes g h out left Other s m r l → Goes g h out left Same n u o w → points_of n ≡ points_of m
    → (Same → goal_of u ≡ goal_of w → Other × (goal_of m ≡ goal_of l)) → Goes g h out left Same s u r w
jumps {g = g} {h = h} {u = u} first second here goals =
    record {
      meets = second.meets;
      back = λ same goal.
          let (other, middle) = goals same goal in
          let (begin, early) = first.back other middle in
          let (begin_too, later) = second.back same goal in
          (begin, joined early (subst (λ z. SamePoints g h z (points_of u)) here later));
    }

-- after a test
pub test_jumps : {g h : Graph} {out left : ℕ} {Same : Type 0} {s n u r o w : Stage} {t f m k p q i j : ℕ} → Tells g h out left Same s t f m k r p q i j → Goes g h out left Same n u o w → points_of n ≡ m
    → (Same → goal_of u ≡ goal_of w → (t ≡ p) × (f ≡ q)) → Goes g h out left Same s u r w
test_jumps {g = g} {h = h} {u = u} first second here goals =
    record {
      meets = second.meets;
      back = λ same goal.
          let (true_side, false_side) = goals same goal in
          let (begin, early) = first.back same true_side false_side in
          let (begin_too, later) = second.back same goal in
          (begin, joined early (subst (λ z. SamePoints g h z (points_of u)) here later));
    }

-- a point after a test, where the condition is false
pub told_then : {g h : Graph} {out left : ℕ} {Same : Type 0} {s r : Stage} {b n k d i j : ℕ} {role : Role} {place : Place} {code : Instr} → Tells g h out left Same s b n n k r d i i j → IsPoint g n role place code → IsPoint h i role place code
    → Goes g h out left Same s (stage b (suc n) k) r (stage d (suc i) j)
told_then {h = h} {n = n} {role = role} {place = place} {code = code} told is is_too =
    record {
      meets = record { points = ap suc told.meets.points; variables = told.meets.variables; alike = told.meets.alike };
      back = λ same goal.
          let (begin, early) = told.back same goal told.meets.points in
          let there = subst (λ z. IsPoint h z role place code) (sym told.meets.points) is_too in
          (begin, joined early (λ v low high. same_point is there refl (omega (arith, low, high))));
    }

-- what stands after is reached from elsewhere
pub leads_away : {g h : Graph} {out left : ℕ} {Same : Type 0} {s r : Stage} {x b n k y d i j : ℕ} → Goes g h out left Same s (stage x n k) r (stage y i j) → (Same → x ≡ y) → Goes g h out left Same s (stage b n k) r (stage d i j)
leads_away steps goals = record { meets = record { points = steps.meets.points; variables = steps.meets.variables; alike = steps.meets.alike }; back = λ same goal. steps.back same (goals same) }

-- the same numbers with another goal
pub at_goal : {g h : Graph} {out left : ℕ} {a b n k d e i j : ℕ} → Meets g h out left (stage a n k) (stage d i j) → Meets g h out left (stage b n k) (stage e i j)
at_goal m = record { points = m.points; variables = m.variables; alike = m.alike }

-- no call's result is put anywhere but by a call
abbrev pub HasNoCall : Right → Type 0
HasNoCall (expression e) = Unit {0}
HasNoCall (allocation shape fields) = Unit {0}
HasNoCall (result_of c) = ⊥

pub sets_no_call : {g : Graph} {out : ℕ} {place : Place} {v : VarId} {right : Right} {s u : Stage} → SetsTo g out place v right s u → HasNoCall right
sets_no_call (sets_operand value is) = tt
sets_no_call (sets_computed value is undone) = tt
sets_no_call (sets_allocated count is) = tt

pub assigns_no_call : {g : Graph} {out : ℕ} {place : Place} {l : Left} {right : Right} {s u : Stage} → Assigns g out place l right s u → HasNoCall right
assigns_no_call (assigns_variable made sets) = sets_no_call sets
assigns_no_call (assigns_field value puts) = tt
assigns_no_call (assigns_allocated count uses is puts) = tt
