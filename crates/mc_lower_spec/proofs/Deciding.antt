-- An atomic condition and its points go on on the same side.
use Rattle.std.proofs.Common.{◌≡◌, ◌⊎◌, inl, inr, ℕ, suc, ℤ, pos, Bool, true, false, List, [], Option, Some, None, length, refl, sym, ap, ◌∙◌, subst, arith}
use Rattle.std.specs.Prelude.{Contains, int_le, not, if◌then◌else◌}
use Rattle.std.specs.Ordering.{int_eq}
use Rattle.mc_base.specs.declared.ids.VarId.{VarId}
use Rattle.mc_base.specs.declared.plain.FaultKind.{FaultKind}
use Rattle.mc_base.specs.declared.plain.FaultKind.TheVariants.{Uninit}
use Rattle.mc_flow.specs.Runs.{next, last as finished, fault}
use Rattle.mc_base.specs.declared.text.place.Place.{Place}
use Rattle.mc_flow.specs.Heap.Heap.{Heap}
use Rattle.mc_flow.specs.Heap.Choices.{Choice}
use Rattle.mc_flow.specs.Values.{value_of as operand_value}
use Rattle.mc_flow.specs.declared.instr.Operand.{Operand}
use Rattle.mc_flow.specs.declared.instr.Operand.TheVariants.{Const}
use Rattle.mc_flow.specs.declared.instr.Instr.{Instr}
use Rattle.mc_flow.specs.declared.instr.Instr.TheVariants.{TestEq, TestLe}
use Rattle.mc_flow.specs.Steps as flow
use Rattle.mc_flow.specs.Steps.{StepOf}
use Rattle.mc_semantics.specs.Values.{Evaluated, fault_of, value_of}
use Rattle.mc_semantics.specs.Steps.{compares}
use Rattle.mc_c_syntax.specs.declared.ast.trees.Comparison.{Comparison}
use Rattle.mc_c_syntax.specs.declared.ast.trees.Comparison.TheVariants.{Equal, Unequal, Below, AtMost, Above, AtLeast}
use Rattle.mc_semantics.specs.Resolved.Configs.{Branch, Result}
use Rattle.mc_semantics.specs.Resolved.Programs.{Expr, plain as plain_cond, compare}
use Rattle.mc_semantics.specs.Resolved.Steps.{Here, led, compared, AfterValue, Tests as Tries}
use Rattle.mc_semantics.specs.Resolved.Values.{Evaluates as Source}
use Rattle.mc_lower_spec.specs.Graphs.{Graph, Stage, stage, plain, point, IsPoint, Undefines}
use Rattle.mc_lower_spec.specs.Values.{decides, Evaluates, Compares, compares as compares_at}
use Rattle.mc_lower_spec.specs.Runs.{FlowStep}
use Rattle.mc_lower_spec.proofs.Simulating.{Goes, one}
use Rattle.mc_semantics.proofs.ResolvedLemmas.Values.{one_value}
use Rattle.mc_lower_spec.proofs.Stepping.{Vars, at, Never, step_at}
use Rattle.mc_lower_spec.proofs.Stages.{goal_of}
use Rattle.mc_lower_spec.proofs.Evaluating.{AreTemporaries, no_temporaries, OnlyNew, both_new, Agree, agree_later, Leads, leads_on, Ended, ended_waits, ended_faults, ended_gives, evaluating, temporaries, grows, kept, kept_value, Kept}
use Rattle.mc_lower_spec.proofs.Changing.{IsClean, restored, undefines_goes}

-- ---- the test of two operands
test_step : (g : Graph) (n : ℕ) (place : Place) (code : Instr) (first second : ℕ) (passes : Bool) (vars : Vars) (heap : Heap) (choices : List Choice) → IsPoint g n plain place code
    → ((r : flow.Result) → r ≡ (if passes then next (at first vars heap) choices else next (at second vars heap) choices) → StepOf g.flow.structs g.program.defs place code (at n vars heap) choices r)
    → FlowStep g (at n vars heap) choices (next (at (if passes then first else second) vars heap) choices)
test_step g n place code first second true vars heap choices is step = step_at g n place code vars heap choices (next (at first vars heap) choices) is (step _ refl)
test_step g n place code first second false vars heap choices is step = step_at g n place code vars heap choices (next (at second vars heap) choices) is (step _ refl)

same_sides : (test : ℤ → ℤ → Bool) (t f n : ℕ) (place : Place) (vars : Vars) (heap : Heap) (choices : List Choice) (a b : Option ℤ) (u w : ℤ) → a ≡ Some u → b ≡ Some w
    → flow.tested test (point t) (point f) place (at n vars heap) choices a b ≡ (if test u w then next (at t vars heap) choices else next (at f vars heap) choices)
same_sides test t f n place vars heap choices a b u w e k =
    ap (λ z. flow.tested test (point t) (point f) place (at n vars heap) choices z b) e ∙ ap (λ z. flow.tested test (point t) (point f) place (at n vars heap) choices (Some u) z) k

swapped : (b : Bool) (y z : ℕ) → (if b then z else y) ≡ (if not b then y else z)
swapped true y z = refl
swapped false y z = refl

-- the side that the comparison takes
pub test_goes : (g : Graph) (n : ℕ) (place : Place) (c : Comparison) (o p : Operand) (y z : ℕ) (vars : Vars) (heap : Heap) (choices : List Choice) (u w : ℤ)
    → IsPoint g n plain place (decides c o p (point y) (point z)) → operand_value vars o ≡ Some u → operand_value vars p ≡ Some w
    → FlowStep g (at n vars heap) choices (next (at (if compares c u w then y else z) vars heap) choices)
test_goes g n place Equal o p y z vars heap choices u w is e k =
    test_step g n place (TestEq o p (point y) (point z)) y z (int_eq u w) vars heap choices is (λ r d. d ∙ sym (same_sides int_eq y z n place vars heap choices (operand_value vars o) (operand_value vars p) u w e k))
test_goes g n place Unequal o p y z vars heap choices u w is e k =
    subst (λ i. FlowStep g (at n vars heap) choices (next (at i vars heap) choices)) (swapped (int_eq u w) y z)
    (test_step g n place (TestEq o p (point z) (point y)) z y (int_eq u w) vars heap choices is (λ r d. d ∙ sym (same_sides int_eq z y n place vars heap choices (operand_value vars o) (operand_value vars p) u w e k)))
test_goes g n place AtMost o p y z vars heap choices u w is e k =
    test_step g n place (TestLe o p (point y) (point z)) y z (int_le u w) vars heap choices is (λ r d. d ∙ sym (same_sides int_le y z n place vars heap choices (operand_value vars o) (operand_value vars p) u w e k))
test_goes g n place Above o p y z vars heap choices u w is e k =
    subst (λ i. FlowStep g (at n vars heap) choices (next (at i vars heap) choices)) (swapped (int_le u w) y z)
    (test_step g n place (TestLe o p (point z) (point y)) z y (int_le u w) vars heap choices is (λ r d. d ∙ sym (same_sides int_le z y n place vars heap choices (operand_value vars o) (operand_value vars p) u w e k)))
test_goes g n place AtLeast o p y z vars heap choices u w is e k =
    test_step g n place (TestLe p o (point y) (point z)) y z (int_le w u) vars heap choices is (λ r d. d ∙ sym (same_sides int_le y z n place vars heap choices (operand_value vars p) (operand_value vars o) w u k e))
test_goes g n place Below o p y z vars heap choices u w is e k =
    subst (λ i. FlowStep g (at n vars heap) choices (next (at i vars heap) choices)) (swapped (int_le w u) y z)
    (test_step g n place (TestLe p o (point z) (point y)) z y (int_le w u) vars heap choices is (λ r d. d ∙ sym (same_sides int_le z y n place vars heap choices (operand_value vars p) (operand_value vars o) w u k e)))

none_first : (test : ℤ → ℤ → Bool) (t f n : ℕ) (place : Place) (vars : Vars) (heap : Heap) (choices : List Choice) (a b : Option ℤ) → (a ≡ None) ⊎ (b ≡ None)
    → flow.tested test (point t) (point f) place (at n vars heap) choices a b ≡ finished (fault Uninit place)
none_first test t f n place vars heap choices None b either_none = refl
none_first test t f n place vars heap choices (Some u) None either_none = refl
none_first test t f n place vars heap choices (Some u) (Some w) (inl e) = absurd (cc)
none_first test t f n place vars heap choices (Some u) (Some w) (inr e) = absurd (cc)

other_none : {A B : Type 0} → A ⊎ B → B ⊎ A
other_none (inl a) = inr a
other_none (inr b) = inl b

-- an undefined operand is a fault
pub test_faults : (g : Graph) (n : ℕ) (place : Place) (c : Comparison) (o p : Operand) (y z : ℕ) (vars : Vars) (heap : Heap) (choices : List Choice)
    → IsPoint g n plain place (decides c o p (point y) (point z)) → (operand_value vars o ≡ None) ⊎ (operand_value vars p ≡ None)
    → FlowStep g (at n vars heap) choices (finished (fault Uninit place))
test_faults g n place Equal o p y z vars heap choices is none =
    step_at g n place (TestEq o p (point y) (point z)) vars heap choices (finished (fault Uninit place)) is (sym (none_first int_eq y z n place vars heap choices (operand_value vars o) (operand_value vars p) none))
test_faults g n place Unequal o p y z vars heap choices is none =
    step_at g n place (TestEq o p (point z) (point y)) vars heap choices (finished (fault Uninit place)) is (sym (none_first int_eq z y n place vars heap choices (operand_value vars o) (operand_value vars p) none))
test_faults g n place AtMost o p y z vars heap choices is none =
    step_at g n place (TestLe o p (point y) (point z)) vars heap choices (finished (fault Uninit place)) is (sym (none_first int_le y z n place vars heap choices (operand_value vars o) (operand_value vars p) none))
test_faults g n place Above o p y z vars heap choices is none =
    step_at g n place (TestLe o p (point z) (point y)) vars heap choices (finished (fault Uninit place)) is (sym (none_first int_le z y n place vars heap choices (operand_value vars o) (operand_value vars p) none))
test_faults g n place AtLeast o p y z vars heap choices is none =
    step_at g n place (TestLe p o (point y) (point z)) vars heap choices (finished (fault Uninit place)) is (sym (none_first int_le y z n place vars heap choices (operand_value vars p) (operand_value vars o) (other_none none)))
test_faults g n place Below o p y z vars heap choices is none =
    step_at g n place (TestLe p o (point z) (point y)) vars heap choices (finished (fault Uninit place)) is (sym (none_first int_le z y n place vars heap choices (operand_value vars p) (operand_value vars o) (other_none none)))

-- ---- atomic conditions
-- both wait, both have the same fault, or both go on on the true or on the false side, the variables as before
pub data IsDecided (g : Graph) (P : Result → Type 0) (R : Branch → List Choice → Result) (x y : Branch) (place : Place) (a t f : ℕ) (vars : Vars) (heap : Heap) (choices : List Choice) : Type 0 where
  decided_waits : ((r : Result) → P r → ⊥) → Never g (at a vars heap) choices → IsDecided g P R x y place a t f vars heap choices
  decided_faults : (kind : FaultKind) → P (finished (fault kind place)) → Goes (FlowStep g) (at a vars heap) choices (finished (fault kind place)) → IsDecided g P R x y place a t f vars heap choices
  decided_true : (left : List Choice) → P (R x left) → Goes (FlowStep g) (at a vars heap) choices (next (at t vars heap) left) → IsDecided g P R x y place a t f vars heap choices
  decided_false : (left : List Choice) → P (R y left) → Goes (FlowStep g) (at a vars heap) choices (next (at f vars heap) left) → IsDecided g P R x y place a t f vars heap choices

one_side : (g : Graph) (h : Here) (P : Result → Type 0) (x y : Branch) (place : Place) (a n t f : ℕ) (us : List VarId) (true_begin true_end false_begin false_end : Stage) (vars later : Vars) (heap : Heap) (choices left : List Choice) (passes : Bool)
    → ((r : Result) → r ≡ (if passes then led h x left else led h y left) → P r)
    → Leads g heap a vars choices n later left → AreTemporaries g us → OnlyNew [] us vars later → IsClean g vars
    → Undefines g place us true_begin true_end → Undefines g place us false_begin false_end → goal_of true_end ≡ t → goal_of false_end ≡ f
    → FlowStep g (at n later heap) left (next (at (if passes then goal_of true_begin else goal_of false_begin) later heap) left)
    → IsDecided g P (λ b rest. led h b rest) x y place a t f vars heap choices
one_side g h P x y place a n t f us true_begin true_end false_begin false_end vars later heap choices left true source leads are new clean yes_undone no_undone e k step =
    decided_true left (source (led h x left) refl)
    (subst (λ i. Goes (FlowStep g) (at a vars heap) choices (next (at i vars heap) left)) e
    (subst (λ z. Goes (FlowStep g) (at a vars heap) choices (next (at (goal_of true_end) z heap) left)) (restored g us vars later are new clean)
    (leads.goes _ (undefines_goes (at n later heap) heap left left later yes_undone step))))
one_side g h P x y place a n t f us true_begin true_end false_begin false_end vars later heap choices left false source leads are new clean yes_undone no_undone e k step =
    decided_false left (source (led h y left) refl)
    (subst (λ i. Goes (FlowStep g) (at a vars heap) choices (next (at i vars heap) left)) k
    (subst (λ z. Goes (FlowStep g) (at a vars heap) choices (next (at (goal_of false_end) z heap) left)) (restored g us vars later are new clean)
    (leads.goes _ (undefines_goes (at n later heap) heap left left later no_undone step))))

-- two operands with values from there on
both_compared : (g : Graph) (h : Here) (P : Result → Type 0) (x y : Branch) (place : Place) (c : Comparison) (o p : Operand) (us : List VarId) (s : Stage) (a t f m l : ℕ) (vars later : Vars) (heap : Heap) (choices left : List Choice) (u w : Option ℤ)
    → ((r : Result) → r ≡ compared h c x y place u w left → P r)
    → Leads g heap a vars choices (goal_of s) later left → AreTemporaries g us → OnlyNew [] us vars later → IsClean g vars
    → operand_value later o ≡ u → operand_value later p ≡ w → Compares g place c o p us s t f m l
    → IsDecided g P (λ b rest. led h b rest) x y place a t f vars heap choices
both_compared g h P x y place c o p us s a t f m l vars later heap choices left None w source leads are new clean e k (compares_at {n = n} {y = yes_at} {z = no_at} is yes_undone no_undone) =
    decided_faults Uninit (source _ refl) (leads.goes _ (one (test_faults g n place c o p yes_at no_at later heap left is (inl e))))
both_compared g h P x y place c o p us s a t f m l vars later heap choices left (Some u) None source leads are new clean e k (compares_at {n = n} {y = yes_at} {z = no_at} is yes_undone no_undone) =
    decided_faults Uninit (source _ refl) (leads.goes _ (one (test_faults g n place c o p yes_at no_at later heap left is (inr k))))
both_compared g h P x y place c o p us s a t f m l vars later heap choices left (Some u) (Some w) source leads are new clean e k (compares_at {n = n} {k = j} {y = yes_at} {z = no_at} {m = i} is yes_undone no_undone) =
    one_side g h P x y place a n t f us (stage yes_at (suc n) j) (stage t i j) (stage no_at i j) (stage f m j) vars later heap choices left (compares c u w)
    (λ r d. source r d) leads are new clean yes_undone no_undone refl refl (test_goes g n place c o p yes_at no_at later heap left u w is e k)

second_compared : (g : Graph) (h : Here) (x y : Branch) (place : Place) (c : Comparison) (d e : Expr) (o p : Operand) (ts us : List VarId) (s : Stage) (a i t f m l : ℕ) (vars mid : Vars) (choices left : List Choice) (w : Option ℤ)
    → Source h.values h.heap d choices (value_of w left) → Leads g h.heap a vars choices i mid left → ((v : VarId) → Contains ts v → Contains us v) → AreTemporaries g us → OnlyNew [] ts vars mid → IsClean g vars
    → operand_value mid o ≡ w → Kept ts us o → Compares g place c o p us s t f m l
    → Ended g (λ r. Source h.values h.heap e left r) place ts us p i (goal_of s) mid h.heap left
    → IsDecided g (λ r. Tries h (compare place c d e) x y choices r) (λ b rest. led h b rest) x y place a t f vars h.heap choices
second_compared g h x y place c d e o p ts us s a i t f m l vars mid choices left w comes leads grow are new clean holds keeps compares_there (ended_waits none never) =
    decided_waits (λ r q.
    let same : q.0 ≡ value_of w left = one_value h.values h.heap d choices q.0 (value_of w left) q.1 comes in
    let go : Option ℤ → List Choice → Result → Type 0 = λ v rest other. (two : Evaluated) × Source h.values h.heap e rest two × AfterValue place (λ u more ends. ends ≡ compared h c x y place v u more) two other in
    let behind : AfterValue place go (value_of w left) r = subst (λ z. AfterValue place go z r) same q.2 in
    none behind.0 behind.1) (leads.never never)
second_compared g h x y place c d e o p ts us s a i t f m l vars mid choices left w comes leads grow are new clean holds keeps compares_there (ended_faults kind it goes) =
    decided_faults kind (value_of w left, comes, (fault_of kind, it, refl)) (leads.goes _ goes)
second_compared g h x y place c d e o p ts us s a i t f m l vars mid choices left w comes leads grow are new clean holds keeps compares_there (ended_gives later u rest it further newer gave) =
    both_compared g h (λ r. Tries h (compare place c d e) x y choices r) x y place c o p us s a t f m l vars later h.heap choices rest w u
    (λ r q. (value_of w left, comes, (value_of u rest, it, q))) (leads_on leads further) are (both_new [] ts us vars mid later (λ v there. absurd (omega (arith, there.1))) grow new newer) clean
    (kept_value ts us o mid later keeps newer ∙ holds) gave compares_there

first_compared : (g : Graph) (h : Here) (x y : Branch) (place : Place) (c : Comparison) (d e : Expr) (o p : Operand) (ts us : List VarId) (s : Stage) (a i t f m l : ℕ) (vars : Vars) (choices : List Choice)
    → ((v : VarId) → Contains ts v → Contains us v) → AreTemporaries g us → IsClean g vars → Kept ts us o → Compares g place c o p us s t f m l
    → ((mid : Vars) (left : List Choice) → OnlyNew [] ts vars mid → Ended g (λ r. Source h.values h.heap e left r) place ts us p i (goal_of s) mid h.heap left)
    → Ended g (λ r. Source h.values h.heap d choices r) place [] ts o a i vars h.heap choices
    → IsDecided g (λ r. Tries h (compare place c d e) x y choices r) (λ b rest. led h b rest) x y place a t f vars h.heap choices
first_compared g h x y place c d e o p ts us s a i t f m l vars choices grow are clean keeps there second (ended_waits none never) = decided_waits (λ r q. none q.0 q.1) never
first_compared g h x y place c d e o p ts us s a i t f m l vars choices grow are clean keeps there second (ended_faults kind comes goes) = decided_faults kind (fault_of kind, comes, refl) goes
first_compared g h x y place c d e o p ts us s a i t f m l vars choices grow are clean keeps there second (ended_gives mid w left comes leads new holds) =
    second_compared g h x y place c d e o p ts us s a i t f m l vars mid choices left w comes leads grow are new clean holds keeps there (second mid left new)

plain_decided : (g : Graph) (h : Here) (x y : Branch) (place : Place) (e : Expr) (o : Operand) (us : List VarId) (s : Stage) (a t f m l : ℕ) (vars : Vars) (choices : List Choice)
    → AreTemporaries g us → IsClean g vars → Compares g place Unequal o (Const (pos 0)) us s t f m l
    → Ended g (λ r. Source h.values h.heap e choices r) place [] us o a (goal_of s) vars h.heap choices
    → IsDecided g (λ r. Tries h (plain_cond place e) x y choices r) (λ b rest. led h b rest) x y place a t f vars h.heap choices
plain_decided g h x y place e o us s a t f m l vars choices are clean there (ended_waits none never) = decided_waits (λ r q. none q.0 q.1) never
plain_decided g h x y place e o us s a t f m l vars choices are clean there (ended_faults kind comes goes) = decided_faults kind (fault_of kind, comes, refl) goes
plain_decided g h x y place e o us s a t f m l vars choices are clean there (ended_gives later w left comes leads new holds) =
    both_compared g h (λ r. Tries h (plain_cond place e) x y choices r) x y place Unequal o (Const (pos 0)) us s a t f m l vars later h.heap choices left w (Some (pos 0))
    (λ r q. (value_of w left, comes, q)) leads are new clean holds refl there

-- an atomic condition and its points
pub decides_plain : {g : Graph} {out : ℕ} {place : Place} {e : Expr} {o : Operand} {ts : List VarId} {s m : Stage} {t f n k : ℕ} (h : Here) (x y : Branch) (vars : Vars) (choices : List Choice)
    → Evaluates g out place e [] s o ts m → Compares g place Unequal o (Const (pos 0)) ts m t f n k → IsClean g vars → length vars ≡ length g.owners → Agree g out h.values vars
    → IsDecided g (λ r. Tries h (plain_cond place e) x y choices r) (λ b rest. led h b rest) x y place (goal_of s) t f vars h.heap choices
decides_plain {g} {place = place} {e = e} {o = o} {ts = ts} {s = s} {m = m} {t = t} {f = f} {n = n} {k = k} h x y vars choices evaluated there clean long agree =
    plain_decided g h x y place e o ts m (goal_of s) t f n k vars choices (temporaries evaluated (no_temporaries g)) clean there
    (evaluating h.values vars h.heap choices evaluated (no_temporaries g) long agree)

pub decides_compare : {g : Graph} {out : ℕ} {place : Place} {c : Comparison} {d e : Expr} {o p : Operand} {ts us : List VarId} {s m u : Stage} {t f n k : ℕ} (h : Here) (x y : Branch) (vars : Vars) (choices : List Choice)
    → Evaluates g out place d [] s o ts m → Evaluates g out place e ts m p us u → Compares g place c o p us u t f n k → IsClean g vars → length vars ≡ length g.owners → Agree g out h.values vars
    → IsDecided g (λ r. Tries h (compare place c d e) x y choices r) (λ b rest. led h b rest) x y place (goal_of s) t f vars h.heap choices
decides_compare {g} {out} {place} {c} {d} {e} {o} {p} {ts} {us} {s} {m} {u} {t} {f} {n} {k} h x y vars choices first second there clean long agree =
    let are : AreTemporaries g ts = temporaries first (no_temporaries g) in
    first_compared g h x y place c d e o p ts us u (goal_of s) (goal_of m) t f n k vars choices (grows second) (temporaries second are) clean (kept us first (temporaries second are)) there
    (λ mid left new. evaluating h.values mid h.heap left second are (new.long ∙ long) (agree_later g out h.values [] ts vars mid are new agree))
    (evaluating h.values vars h.heap choices first (no_temporaries g) long agree)
