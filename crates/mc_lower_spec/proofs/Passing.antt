-- Arguments are evaluated and copied to the parameters.
use Rattle.std.proofs.Common.{◌<◌, ◌≤◌, ◌+◌, ◌≡◌, inl, inr, ℕ, zero, suc, ℤ, List, [], ◌∷◌, Option, Some, None, length, refl, sym, ap, ◌∙◌, subst, arith}
use Rattle.std.specs.Prelude.{slice_get, slice_index_or, Contains, map, option_map}
use Rattle.std.proofs.lemmas.Option.{slice_get_within}
use Rattle.mc_base.specs.declared.ids.VarId.{VarId}
use Rattle.mc_base.specs.declared.plain.FaultKind.{FaultKind}
use Rattle.mc_base.specs.declared.plain.FaultKind.TheVariants.{Uninit}
use Rattle.mc_base.specs.declared.plain.Kind.{Kind}
use Rattle.mc_flow.specs.Runs.{next, last as finished_run, fault}
use Rattle.mc_base.specs.declared.text.place.Place.{Place}
use Rattle.mc_flow.specs.Heap.Heap.{Heap}
use Rattle.mc_flow.specs.Heap.Choices.{Choice}
use Rattle.mc_flow.specs.Values.{value_in, value_of as operand_value, with_value, without as flow_without, all_there}
use Rattle.mc_flow.specs.declared.instr.Operand.{Operand}
use Rattle.mc_flow.specs.declared.instr.Operand.TheVariants.{Var, Const}
use Rattle.mc_flow.specs.declared.instr.Instr.TheVariants.{Copy}
use Rattle.mc_flow.specs.Steps as flow
use Rattle.mc_semantics.specs.Values.{fault_of, value_of}
use Rattle.mc_semantics.specs.Steps.{Arguments, no_arguments, arguments, AfterFirst}
use Rattle.mc_semantics.specs.Resolved.Configs.{held}
use Rattle.mc_semantics.specs.Resolved.Programs.{Expr, Local, Function}
use Rattle.mc_semantics.specs.Resolved.Steps.{Here, EvaluateAll, passed}
use Rattle.mc_semantics.specs.Resolved.Values.{Evaluates as Source}
use Rattle.mc_lower_spec.specs.Graphs.{Graph, local, temporary, plain, Stage, point, IsPoint, appends, creates, is_made}
use Rattle.mc_lower_spec.specs.Values.{Evaluates, of_number, of_variable, of_operation, takes, EvaluatesAll, evaluates_none, evaluates_next}
use Rattle.mc_lower_spec.specs.Lowering.{Receives, receives_none, receives, Passes, passes_none, passes}
use Rattle.mc_lower_spec.specs.Runs.{FlowStep}
use Rattle.mc_lower_spec.proofs.Simulating.{Goes, one}
use Rattle.mc_semantics.proofs.ResolvedLemmas.Values.{one_value}
use Rattle.mc_lower_spec.proofs.Stepping.{Vars, at, Never, step_at}
use Rattle.mc_lower_spec.proofs.Stages.{goal_of, variables_of}
use Rattle.mc_lower_spec.proofs.Evaluating.{AreTemporaries, OnlyNew, nothing_new, both_new, Agree, agree_later, Leads, leads_on, stays, Ended, ended_waits, ended_faults, ended_gives, evaluating, temporaries, grows, Kept, kept, kept_value, set_here, set_elsewhere, used_owner}
use Rattle.mc_lower_spec.proofs.Changing.{IsClean, length_set, length_without, same_list, same_variable, in_or_not, without_in, without_out}
use Rattle.mc_lower_spec.proofs.Holding.{AreOnce, Frame, AllHeld, IsNone, frames_apart, same_local}
use Rattle.mc_lower_spec.proofs.Growing.{received}

-- ---- all arguments
pub data AllEnded (g : Graph) (h : Here) (es : List Expr) (place : Place) (ts us : List VarId) (os : List Operand) (a b : ℕ) (vars : Vars) (choices : List Choice) : Type 0 where
  all_waits : ((r : Arguments) → EvaluateAll h es choices r → ⊥) → Never g (at a vars h.heap) choices → AllEnded g h es place ts us os a b vars choices
  all_faults : (kind : FaultKind) → EvaluateAll h es choices (no_arguments kind) → Goes (FlowStep g) (at a vars h.heap) choices (finished_run (fault kind place)) → AllEnded g h es place ts us os a b vars choices
  all_gives : (later : Vars) (vs : List (Option ℤ)) (left : List Choice) → EvaluateAll h es choices (arguments vs left) → Leads g h.heap a vars choices b later left → OnlyNew ts us vars later
      → map (operand_value later) os ≡ vs → AllEnded g h es place ts us os a b vars choices

pub all_temporaries : {g : Graph} {out : ℕ} {place : Place} {es : List Expr} {ts us : List VarId} {s u : Stage} {os : List Operand} → EvaluatesAll g out place es ts s os us u → AreTemporaries g ts → AreTemporaries g us
all_temporaries evaluates_none are = are
all_temporaries (evaluates_next first rest) are = all_temporaries rest (temporaries first are)

all_grow : {g : Graph} {out : ℕ} {place : Place} {es : List Expr} {ts us : List VarId} {s u : Stage} {os : List Operand} → EvaluatesAll g out place es ts s os us u → (v : VarId) → Contains ts v → Contains us v
all_grow evaluates_none v is_in = is_in
all_grow (evaluates_next first rest) v is_in = all_grow rest v (grows first v is_in)

rest_ended : (g : Graph) (h : Here) (e : Expr) (es : List Expr) (place : Place) (ts us ws : List VarId) (o : Operand) (os : List Operand) (a m b : ℕ) (vars mid : Vars) (choices left : List Choice) (w : Option ℤ)
    → Source h.values h.heap e choices (value_of w left) → Leads g h.heap a vars choices m mid left → OnlyNew ts us vars mid → operand_value mid o ≡ w
    → ((v : VarId) → Contains ts v → Contains us v) → ((v : VarId) → Contains us v → Contains ws v) → Kept us ws o
    → AllEnded g h es place us ws os m b mid left → AllEnded g h (e ∷ es) place ts ws (o ∷ os) a b vars choices
rest_ended g h e es place ts us ws o os a m b vars mid choices left w is leads new holds grow wider keeps (all_waits none never) =
    all_waits (λ r q.
    let same : q.0 ≡ value_of w left = one_value h.values h.heap e choices q.0 (value_of w left) q.1 is in
    let behind : AfterFirst (λ rest others. EvaluateAll h es rest others) (value_of w left) r = subst (λ z. AfterFirst (λ rest others. EvaluateAll h es rest others) z r) same q.2 in
    none behind.0 behind.1) (leads.never never)
rest_ended g h e es place ts us ws o os a m b vars mid choices left w is leads new holds grow wider keeps (all_faults kind it goes) =
    all_faults kind (value_of w left, is, (no_arguments kind, it, refl)) (leads.goes _ goes)
rest_ended g h e es place ts us ws o os a m b vars mid choices left w is leads new holds grow wider keeps (all_gives later vs rest it further newer gave) =
    all_gives later (w ∷ vs) rest (value_of w left, is, (arguments vs rest, it, refl)) (leads_on leads further) (both_new ts us ws vars mid later grow wider new newer)
    (ap (λ z. z ∷ map (operand_value later) os) (kept_value us ws o mid later keeps newer ∙ holds) ∙ ap (λ z. w ∷ z) gave)

first_ended : (g : Graph) (h : Here) (e : Expr) (es : List Expr) (place : Place) (ts us ws : List VarId) (o : Operand) (os : List Operand) (a m b : ℕ) (vars : Vars) (choices : List Choice)
    → ((v : VarId) → Contains ts v → Contains us v) → ((v : VarId) → Contains us v → Contains ws v) → Kept us ws o
    → ((mid : Vars) (left : List Choice) → OnlyNew ts us vars mid → AllEnded g h es place us ws os m b mid left)
    → Ended g (λ r. Source h.values h.heap e choices r) place ts us o a m vars h.heap choices → AllEnded g h (e ∷ es) place ts ws (o ∷ os) a b vars choices
first_ended g h e es place ts us ws o os a m b vars choices grow wider keeps rest (ended_waits none never) = all_waits (λ r q. none q.0 q.1) never
first_ended g h e es place ts us ws o os a m b vars choices grow wider keeps rest (ended_faults kind is goes) = all_faults kind (fault_of kind, is, refl) goes
first_ended g h e es place ts us ws o os a m b vars choices grow wider keeps rest (ended_gives mid w left is leads new holds) =
    rest_ended g h e es place ts us ws o os a m b vars mid choices left w is leads new holds grow wider keeps (rest mid left new)

pub evaluating_all : {g : Graph} {out : ℕ} {place : Place} {es : List Expr} {ts us : List VarId} {s u : Stage} {os : List Operand} (h : Here) (vars : Vars) (choices : List Choice)
    → EvaluatesAll g out place es ts s os us u → AreTemporaries g ts → length vars ≡ length g.owners → Agree g out h.values vars → AllEnded g h es place ts us os (goal_of s) (goal_of u) vars choices
evaluating_all {g} {ts = ts} {s = s} h vars choices evaluates_none are long agree = all_gives vars [] choices refl (stays g h.heap (goal_of s) vars choices) (nothing_new ts vars) refl
evaluating_all {g} {out} {place} {ts = ts} {us = ws} {s = s} {u = u} h vars choices (evaluates_next {e = e} {es = es} {o = o} {os = os} {us = us} {m = m} first rest) are long agree =
    let there : AreTemporaries g us = temporaries first are in
    first_ended g h e es place ts us ws o os (goal_of s) (goal_of m) (goal_of u) vars choices (grows first) (all_grow rest) (kept ws first (all_temporaries rest there))
    (λ mid left new. evaluating_all h mid left rest there (new.long ∙ long) (agree_later g out h.values ts us vars mid there new agree))
    (evaluating h.values vars h.heap choices first are long agree)

-- ---- operands are no variables of the function that is called
abbrev pub IsOuter : Graph → ℕ → Operand → Type 0
IsOuter g inner (Var v) = (x : ℕ) → slice_get g.owners v.0 ≡ Some (local inner x) → ⊥
IsOuter g inner (Const c) = Unit {0}

abbrev pub AreOuter : Graph → ℕ → List Operand → Type 0
AreOuter g inner [] = Unit {0}
AreOuter g inner (o ∷ os) = IsOuter g inner o × AreOuter g inner os

outer_operand : {g : Graph} {out : ℕ} {place : Place} {e : Expr} {ts us : List VarId} {s u : Stage} {o : Operand} (inner : ℕ) → (out ≡ inner → ⊥) → Evaluates g out place e ts s o us u → IsOuter g inner o
outer_operand inner apart of_number = tt
outer_operand {g} {out} inner apart (of_variable {x = x} {v = v} (is_made owned before)) = λ y owns. apart (Rattle.mc_lower_spec.proofs.Holding.same_out g v.0 out x inner y owned owns)
outer_operand {g} inner apart (of_operation {ts = ts} {us = us} {m = m} {t = t} {kind = kind} computed (takes {m = n} uses is)) = λ y owns.
    Rattle.mc_lower_spec.proofs.Holding.no_temporary g t.0 t.0 inner y (length us) kind owns (used_owner g (length us) kind m n t uses) refl

pub outer_operands : {g : Graph} {out : ℕ} {place : Place} {es : List Expr} {ts us : List VarId} {s u : Stage} {os : List Operand} (inner : ℕ) → (out ≡ inner → ⊥) → EvaluatesAll g out place es ts s os us u → AreOuter g inner os
outer_operands inner apart evaluates_none = tt
outer_operands inner apart (evaluates_next first rest) = (outer_operand inner apart first, outer_operands inner apart rest)

-- ---- the copies
abbrev pub put_all : List VarId → List ℤ → Vars → Vars
put_all [] zs vars = vars
put_all (v ∷ vs) [] vars = vars
put_all (v ∷ vs) (z ∷ zs) vars = put_all vs zs (with_value vars v (Some z))

abbrev pub AreOwned : Graph → ℕ → List VarId → Type 0
AreOwned g inner [] = Unit {0}
AreOwned g inner (v ∷ vs) = ((x : ℕ) × (slice_get g.owners v.0 ≡ Some (local inner x))) × AreOwned g inner vs

pub received_owned : {g : Graph} {f : Function} {inner x more : ℕ} {s u : Stage} {vs : List VarId} → Receives g f inner x more s vs u → AreOwned g inner vs
received_owned receives_none = tt
received_owned {x = x} (receives is (creates owned info) rest) = ((x, owned), received_owned rest)

pub data Copied (g : Graph) (place : Place) (vs : List VarId) (ws : List (Option ℤ)) (a b : ℕ) (vars : Vars) (heap : Heap) (choices : List Choice) : Type 0 where
  copied_none : all_there ws ≡ None → Goes (FlowStep g) (at a vars heap) choices (finished_run (fault Uninit place)) → Copied g place vs ws a b vars heap choices
  copied_all : (zs : List ℤ) → all_there ws ≡ Some zs → Goes (FlowStep g) (at a vars heap) choices (next (at b (put_all vs zs vars) heap) choices) → Copied g place vs ws a b vars heap choices
  copied_same : vs ≡ [] → all_there ws ≡ Some [] → a ≡ b → Copied g place vs ws a b vars heap choices

copied_behind : (g : Graph) (place : Place) (v : VarId) (vs : List VarId) (z : ℤ) (ws : List (Option ℤ)) (a m b : ℕ) (vars : Vars) (heap : Heap) (choices : List Choice)
    → FlowStep g (at a vars heap) choices (next (at m (with_value vars v (Some z)) heap) choices) → Copied g place vs ws m b (with_value vars v (Some z)) heap choices → Copied g place (v ∷ vs) (Some z ∷ ws) a b vars heap choices
copied_behind g place v vs z ws a m b vars heap choices step (copied_none none goes) = copied_none (ap (option_map (λ zs. z ∷ zs)) none) (Rattle.mc_lower_spec.proofs.Simulating.more step goes)
copied_behind g place v vs z ws a m b vars heap choices step (copied_all zs some goes) = copied_all (z ∷ zs) (ap (option_map (λ ys. z ∷ ys)) some) (Rattle.mc_lower_spec.proofs.Simulating.more step goes)
copied_behind g place v vs z ws a m b vars heap choices step (copied_same empty some same) =
    copied_all (z ∷ []) (ap (option_map (λ ys. z ∷ ys)) some)
    (one (subst (λ q. FlowStep g (at a vars heap) choices (next (at q (put_all vs [] (with_value vars v (Some z))) heap) choices)) same
    (subst (λ us. FlowStep g (at a vars heap) choices (next (at m (put_all us [] (with_value vars v (Some z))) heap) choices)) (sym empty) step)))

same_operand : (g : Graph) (inner x : ℕ) (v : VarId) (w : Option ℤ) (vars : Vars) (o : Operand) → slice_get g.owners v.0 ≡ Some (local inner x) → IsOuter g inner o → operand_value (with_value vars v w) o ≡ operand_value vars o
same_operand g inner x v w vars (Var y) owned outer = set_elsewhere vars v y w (λ e. outer x (subst (λ z. slice_get g.owners z.0 ≡ Some (local inner x)) e owned))
same_operand g inner x v w vars (Const c) owned outer = refl

same_operands : (g : Graph) (inner x : ℕ) (v : VarId) (w : Option ℤ) (vars : Vars) (os : List Operand) → slice_get g.owners v.0 ≡ Some (local inner x) → AreOuter g inner os
    → map (operand_value (with_value vars v w)) os ≡ map (operand_value vars) os
same_operands g inner x v w vars [] owned outer = refl
same_operands g inner x v w vars (o ∷ os) owned outer =
    ap (λ z. z ∷ map (operand_value (with_value vars v w)) os) (same_operand g inner x v w vars o owned outer.0) ∙ ap (λ z. operand_value vars o ∷ z) (same_operands g inner x v w vars os owned outer.1)

copied_first : (g : Graph) (place : Place) (v : VarId) (vs : List VarId) (o : Operand) (os : List Operand) (a m b : ℕ) (vars : Vars) (heap : Heap) (choices : List Choice) (w : Option ℤ) → operand_value vars o ≡ w
    → IsPoint g a plain place (Copy v o (point m)) → ((z : ℤ) → Copied g place vs (map (operand_value vars) os) m b (with_value vars v (Some z)) heap choices)
    → Copied g place (v ∷ vs) (w ∷ map (operand_value vars) os) a b vars heap choices
copied_first g place v vs o os a m b vars heap choices None holds is rest =
    copied_none refl (one (step_at g a place (Copy v o (point m)) vars heap choices (finished_run (fault Uninit place)) is (sym (ap (flow.copied v (point m) place (at a vars heap) choices) holds))))
copied_first g place v vs o os a m b vars heap choices (Some z) holds is rest =
    copied_behind g place v vs z (map (operand_value vars) os) a m b vars heap choices
    (step_at g a place (Copy v o (point m)) vars heap choices (next (at m (with_value vars v (Some z)) heap) choices) is (sym (ap (flow.copied v (point m) place (at a vars heap) choices) holds))) (rest z)

pub copying : {g : Graph} {place : Place} {vs : List VarId} {os : List Operand} {s u : Stage} (inner : ℕ) (vars : Vars) (heap : Heap) (choices : List Choice) → Passes g place vs os s u → AreOwned g inner vs → AreOuter g inner os
    → Copied g place vs (map (operand_value vars) os) (goal_of s) (goal_of u) vars heap choices
copying {g} {s = s} inner vars heap choices passes_none owned outer = copied_same refl refl refl
copying {g} {place} {u = u} inner vars heap choices (passes {v = v} {vs = vs} {o = o} {os = os} (appends {n = n} {b = b} is) rest) owned outer =
    copied_first g place v vs o os n b (goal_of u) vars heap choices (operand_value vars o) refl is
    (λ z. subst (λ ws. Copied g place vs ws b (goal_of u) (with_value vars v (Some z)) heap choices) (same_operands g inner owned.0.0 v (Some z) vars os owned.0.1 outer.1)
    (copying inner (with_value vars v (Some z)) heap choices rest owned.1 outer.1))

-- ---- what the parameters hold then
pub put_elsewhere : (g : Graph) (inner : ℕ) (vs : List VarId) (zs : List ℤ) (vars : Vars) (u : VarId) → AreOwned g inner vs → ((x : ℕ) → slice_get g.owners u.0 ≡ Some (local inner x) → ⊥)
    → value_in (put_all vs zs vars) u ≡ value_in vars u
put_elsewhere g inner [] zs vars u owned other = refl
put_elsewhere g inner (v ∷ vs) [] vars u owned other = refl
put_elsewhere g inner (v ∷ vs) (z ∷ zs) vars u owned other =
    put_elsewhere g inner vs zs (with_value vars v (Some z)) u owned.1 other
    ∙ set_elsewhere vars v u (Some z) (λ e. other owned.0.0 (subst (λ y. slice_get g.owners y.0 ≡ Some (local inner owned.0.0)) e owned.0.1))

pub length_put_all : (vs : List VarId) (zs : List ℤ) (vars : Vars) → length (put_all vs zs vars) ≡ length vars
length_put_all [] zs vars = refl
length_put_all (v ∷ vs) [] vars = refl
length_put_all (v ∷ vs) (z ∷ zs) vars = length_put_all vs zs (with_value vars v (Some z)) ∙ length_set vars v.0 (Some z)

pub frames_put : (g : Graph) (inner : ℕ) (fs : List Frame) (vs : List VarId) (zs : List ℤ) (vars : Vars) → AreOwned g inner vs → IsNone inner fs → AllHeld g fs vars → AllHeld g fs (put_all vs zs vars)
frames_put g inner fs [] zs vars owned none all = all
frames_put g inner fs (v ∷ vs) [] vars owned none all = all
frames_put g inner fs (v ∷ vs) (z ∷ zs) vars owned none all =
    frames_put g inner fs vs zs (with_value vars v (Some z)) owned.1 none (frames_apart g fs vars v.0 inner owned.0.0 (Some z) owned.0.1 none all)

-- after the Undef of the temporaries of the arguments
put_alike : (g : Graph) (inner : ℕ) (vs : List VarId) (zs : List ℤ) (vars later : Vars) (u : VarId) → AreOwned g inner vs → length vars ≡ length g.owners → length later ≡ length vars → value_in later u ≡ value_in vars u
    → value_in (put_all vs zs later) u ≡ value_in (put_all vs zs vars) u
put_alike g inner [] zs vars later u owned long same e = e
put_alike g inner (v ∷ vs) [] vars later u owned long same e = e
put_alike g inner (v ∷ vs) (z ∷ zs) vars later u owned long same e =
    put_alike g inner vs zs (with_value vars v (Some z)) (with_value later v (Some z)) u owned.1 (length_set vars v.0 (Some z) ∙ long) (length_set later v.0 (Some z) ∙ same ∙ sym (length_set vars v.0 (Some z)))
    (elim (same_variable v u) [
      | inl k ↦ subst (λ y. value_in (with_value later v (Some z)) y ≡ value_in (with_value vars v (Some z)) y) k
          (set_here later v (Some z) (omega (arith, within, long, same)) ∙ sym (set_here vars v (Some z) (omega (arith, within, long))))
      | inr apart ↦ set_elsewhere later v u (Some z) apart ∙ e ∙ sym (set_elsewhere vars v u (Some z) apart)
    ])
  where
    within : v.0 < length g.owners
    within = slice_get_within g.owners v.0 (local inner owned.0.0) owned.0.1

pub put_cleaned : (g : Graph) (inner : ℕ) (ts vs : List VarId) (zs : List ℤ) (vars later : Vars) → AreTemporaries g ts → OnlyNew [] ts vars later → IsClean g vars → AreOwned g inner vs → length vars ≡ length g.owners
    → flow_without (put_all vs zs later) ts ≡ put_all vs zs vars
put_cleaned g inner ts vs zs vars later are new clean owned long =
    same_list (flow_without (put_all vs zs later) ts) (put_all vs zs vars)
    (length_without ts (put_all vs zs later) ∙ length_put_all vs zs later ∙ new.long ∙ sym (length_put_all vs zs vars)) (λ i. at_number (record { 0 = i }))
  where
    at_number : (v : VarId) → value_in (flow_without (put_all vs zs later) ts) v ≡ value_in (put_all vs zs vars) v
    at_number v = elim (in_or_not v ts) [
      | inl is_in ↦
          let is : (j : ℕ) × (k : Kind) × (j < length ts) × (slice_get g.owners v.0 ≡ Some (temporary j k)) = are.each v is_in in
          without_in ts (put_all vs zs later) v is_in
          ∙ sym (put_elsewhere g inner vs zs vars v owned (λ x owns. Rattle.mc_lower_spec.proofs.Holding.no_temporary g v.0 v.0 inner x is.0 is.1 owns is.3 refl) ∙ clean v is.0 is.1 is.3)
      | inr absent ↦ without_out ts (put_all vs zs later) v absent ∙ put_alike g inner vs zs vars later v owned long new.long (new.same v (λ is_in. absurd (absent is_in)))
    ]

-- the values of the parameters, in both
none_passed : (ls : List Local) (zs : List ℤ) (y : ℕ) → held (passed 0 ls zs) y ≡ None
none_passed [] zs y = refl
none_passed (l ∷ ls) zs zero = refl
none_passed (l ∷ ls) zs (suc y) = none_passed ls zs y

pub passed_beyond : (more : ℕ) (ls : List Local) (zs : List ℤ) (y : ℕ) → more ≤ y → held (passed more ls zs) y ≡ None
passed_beyond zero ls zs y past = none_passed ls zs y
passed_beyond (suc more) [] zs y past = refl
passed_beyond (suc more) (l ∷ ls) zs zero past = absurd (omega (arith, past))
passed_beyond (suc more) (l ∷ ls) [] (suc y) past = passed_beyond more ls [] y (omega (arith, past))
passed_beyond (suc more) (l ∷ ls) (z ∷ zs) (suc y) past = passed_beyond more ls zs y (omega (arith, past))

pub passed_length : (more : ℕ) (ls : List Local) (zs : List ℤ) → length (passed more ls zs) ≡ length ls
passed_length more [] zs = empty_length more zs
  where
    empty_length : (n : ℕ) (ys : List ℤ) → length (passed n [] ys) ≡ 0
    empty_length zero ys = refl
    empty_length (suc n) ys = refl
passed_length zero (l ∷ ls) zs = ap suc (passed_length zero ls zs)
passed_length (suc more) (l ∷ ls) [] = ap suc (passed_length more ls [])
passed_length (suc more) (l ∷ ls) (z ∷ zs) = ap suc (passed_length more ls zs)

no_values : (more : ℕ) (ls : List Local) (y : ℕ) → held (passed more ls []) y ≡ None
no_values zero ls y = none_passed ls [] y
no_values (suc more) [] y = refl
no_values (suc more) (l ∷ ls) zero = refl
no_values (suc more) (l ∷ ls) (suc y) = no_values more ls y

pub received_agree : {g : Graph} {f : Function} {inner x more : ℕ} {s u : Stage} {vs : List VarId} (ls : List Local) (zs : List ℤ) (vars : Vars) → AreOnce g → Receives g f inner x more s vs u → more ≤ length ls → length vars ≡ length g.owners
    → ((y v : ℕ) → slice_get g.owners v ≡ Some (local inner (x + y)) → slice_index_or vars v None ≡ None)
    → (y v : ℕ) → slice_get g.owners v ≡ Some (local inner (x + y)) → held (passed more ls zs) y ≡ slice_index_or (put_all vs zs vars) v None
received_agree ls zs vars once receives_none counted long clear y v owns = none_passed ls zs y ∙ sym (clear y v owns)
received_agree [] zs vars once (receives is makes rest) counted long clear y v owns = absurd (omega (arith, counted))
received_agree {more = suc more} (l ∷ ls) [] vars once (receives is makes rest) counted long clear y v owns = no_values (suc more) (l ∷ ls) y ∙ sym (clear y v owns)
received_agree {g} {f} {inner = inner} {x = x} (l ∷ ls) (z ∷ zs) vars once (receives {vs = vs} is (creates {k = k} owned info) rest) counted long clear zero v owns =
    let own : slice_get g.owners v ≡ Some (local inner x) = subst (λ n. slice_get g.owners v ≡ Some (local inner n)) (omega arith) owns in
    let same : k ≡ v = once (local inner x) k v owned own in
    let within : k < length g.owners = slice_get_within g.owners k (local inner x) owned in
    sym (ap (λ n. slice_index_or (put_all vs zs (with_value vars (record { 0 = k }) (Some z))) n None) (sym same)
    ∙ later_put rest zs (with_value vars (record { 0 = k }) (Some z)) k x owned (omega arith) ∙ set_here vars (record { 0 = k }) (Some z) (omega (arith, within, long)))
  where
    later_put : {e : Function} {i j : Stage} {ws : List VarId} {n m : ℕ} → Receives g e inner n m i ws j → (ys : List ℤ) (some : Vars) (w y : ℕ) → slice_get g.owners w ≡ Some (local inner y) → y < n
        → slice_index_or (put_all ws ys some) w None ≡ slice_index_or some w None
    later_put receives_none ys some w y own less = refl
    later_put (receives is2 makes2 rest2) [] some w y own less = refl
    later_put {n = n} (receives is2 (creates {k = q} owned2 info2) rest2) (a ∷ ys) some w y own less =
        later_put rest2 ys (with_value some (record { 0 = q }) (Some a)) w y own (omega (arith, less))
        ∙ set_elsewhere some (record { 0 = q }) (record { 0 = w }) (Some a) (λ e.
        let number : q ≡ w = ap (λ (r : VarId). r.0) e in
        let also : n ≡ y = same_local g q inner n inner y owned2 (subst (λ r. slice_get g.owners r ≡ Some (local inner y)) (sym number) own) in
        omega (arith, less, also))
received_agree {g} {inner = inner} {x = x} (l ∷ ls) (z ∷ zs) vars once (receives {vs = vs} is (creates {k = k} owned info) rest) counted long clear (suc y) v owns =
    received_agree ls zs (with_value vars (record { 0 = k }) (Some z)) once rest (omega (arith, counted)) (length_set vars k (Some z) ∙ long)
    (λ i w own.
    set_elsewhere vars (record { 0 = k }) (record { 0 = w }) (Some z) (λ e.
    let number : k ≡ w = ap (λ (r : VarId). r.0) e in
    let also : x ≡ suc x + i = same_local g k inner x inner (suc x + i) owned (subst (λ r. slice_get g.owners r ≡ Some (local inner (suc x + i))) (sym number) own) in
    omega (arith, also))
    ∙ clear (suc i) w (subst (λ n. slice_get g.owners w ≡ Some (local inner n)) (omega arith) own))
    y v (subst (λ n. slice_get g.owners v ≡ Some (local inner n)) (omega arith) owns)

-- the parameters are made by then
pub received_low : {g : Graph} {f : Function} {inner x more : ℕ} {s u : Stage} {vs : List VarId} → AreOnce g → Receives g f inner x more s vs u → (y v : ℕ) → slice_get g.owners v ≡ Some (local inner (x + y)) → y < more → v < variables_of u
received_low once receives_none y v owns less = absurd (omega (arith, less))
received_low {g} {inner = inner} {x = x} once (receives is (creates {k = k} owned info) rest) zero v owns less =
    let same : v ≡ k = once (local inner x) v k (subst (λ n. slice_get g.owners v ≡ Some (local inner n)) (omega arith) owns) owned in
    let grew = received rest in
    omega (arith, same, grew.variables)
received_low {g} {inner = inner} {x = x} once (receives is makes rest) (suc y) v owns less =
    received_low once rest y v (subst (λ n. slice_get g.owners v ≡ Some (local inner n)) (omega arith) owns) (omega (arith, less))
