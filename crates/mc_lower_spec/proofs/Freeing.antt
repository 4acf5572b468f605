-- `free`, `+=` and `-=` go on together with their points.
use Rattle.std.proofs.Common.{◌<◌, ◌≡◌, ℕ, suc, ℤ, ◌+ℤ◌, ◌-ℤ◌, Bool, true, false, List, [], Option, Some, None, length, refl, sym, ap, ◌∙◌, subst, arith}
use Rattle.std.specs.Prelude.{slice_get, ◌==◌, if◌then◌else◌}
use Rattle.std.specs.FinMap as map
use Rattle.std.proofs.lemmas.Option.{slice_get_within}
use Rattle.mc_base.specs.declared.ids.VarId.{VarId}
use Rattle.mc_base.specs.declared.plain.FaultKind.{FaultKind}
use Rattle.mc_base.specs.declared.plain.FaultKind.TheVariants.{Uninit, BadFree}
use Rattle.mc_flow.specs.Runs.{next}
use Rattle.mc_base.specs.declared.text.place.Place.{Place}
use Rattle.mc_flow.specs.Heap.Heap.{Block, Heap, region_of}
use Rattle.mc_flow.specs.Heap.Choices.{Choice}
use Rattle.mc_flow.specs.Values.{value_in, value_of as operand_value, with_value, address}
use Rattle.mc_flow.specs.declared.instr.Operand.{Operand}
use Rattle.mc_flow.specs.declared.instr.Operand.TheVariants.{Var}
use Rattle.mc_flow.specs.declared.instr.Instr.TheVariants.{Free}
use Rattle.mc_flow.specs.Steps as flow
use Rattle.mc_semantics.specs.Values.{Evaluated, fault_of, value_of, operated}
use Rattle.mc_semantics.specs.Resolved.Configs.{Values, with_variable, held, Tasks}
use Rattle.mc_semantics.specs.Resolved.Programs.{Expr}
use Rattle.mc_semantics.specs.Resolved.Steps.{Here, after, freed, freed_at, WithValue, Combines}
use Rattle.mc_semantics.specs.Resolved.Values.{fault_in, changed, computed, Evaluates as Source}
use Rattle.mc_lower_spec.specs.Graphs.{Graph, local, Stage, stage, plain, point, IsPoint, Appends, appends, Undefines, IsMade, is_made}
use Rattle.mc_lower_spec.specs.Values.{Operation, a_sum, a_difference, sets, Evaluates}
use Rattle.mc_lower_spec.specs.Runs.{FlowStep}
use Rattle.mc_lower_spec.proofs.Simulating.{Goes, one}
use Rattle.mc_lower_spec.proofs.Stepping.{Vars, at, step_at, Comes, Operates, op_waits, op_faults, op_gives, operates}
use Rattle.mc_lower_spec.proofs.Stages.{goal_of}
use Rattle.mc_lower_spec.proofs.Evaluating.{AreTemporaries, no_temporaries, not_temporary, OnlyNew, Agree, agree_later, Leads, Ended, ended_waits, ended_faults, ended_gives, evaluating, temporaries}
use Rattle.mc_lower_spec.proofs.Changing.{IsClean, cleaned, undefines_goes}
use Rattle.mc_lower_spec.proofs.Storing.{Stores, stores_faults, stores_gives, IsPut, put_faults, put_gives, stored_put}
use Rattle.mc_lower_spec.proofs.Performing.{Settable, IsPerformed, performed_waits, performed_faults, performed, nothing_set, one_set}
use Rattle.mc_lower_spec.proofs.Adding.{rest_there, value_there}

-- ---- `free`
block_frees : (g : Graph) (h : Here) (place : Place) (n q : ℕ) (vars : Vars) (choices : List Choice) (p : ℕ) (block : Option Block)
    → ((r : flow.Result) → r ≡ flow.freed_at (point q) place (at n vars h.heap) choices p block → FlowStep g (at n vars h.heap) choices r)
    → Stores g (freed_at h p block) h.values place n q vars h.heap choices
block_frees g h place n q vars choices p None step = stores_faults BadFree refl (step _ refl)
block_frees g h place n q vars choices p (Some block) step = stores_gives (map.remove h.heap p) refl (step _ refl)

null_frees : (g : Graph) (h : Here) (place : Place) (n q : ℕ) (vars : Vars) (choices : List Choice) (p : ℤ) (null : Bool)
    → ((r : flow.Result) → r ≡ (if null then next (at q vars h.heap) choices else flow.freed_at (point q) place (at n vars h.heap) choices (address p) (region_of h.heap (address p))) → FlowStep g (at n vars h.heap) choices r)
    → Stores g (if null then changed h.values h.heap else freed_at h (address p) (region_of h.heap (address p))) h.values place n q vars h.heap choices
null_frees g h place n q vars choices p true step = stores_gives h.heap refl (step _ refl)
null_frees g h place n q vars choices p false step = block_frees g h place n q vars choices (address p) (region_of h.heap (address p)) step

value_frees : (g : Graph) (h : Here) (place : Place) (n q : ℕ) (vars : Vars) (choices : List Choice) (w : Option ℤ)
    → ((r : flow.Result) → r ≡ flow.freed (point q) place (at n vars h.heap) choices w → FlowStep g (at n vars h.heap) choices r)
    → Stores g (freed h w) h.values place n q vars h.heap choices
value_frees g h place n q vars choices None step = stores_faults Uninit refl (step _ refl)
value_frees g h place n q vars choices (Some p) step = null_frees g h place n q vars choices p (address p == 0) step

free_performed : (g : Graph) (h : Here) (e : Expr) (rest : Tasks) (May : Settable) (place : Place) (a m b : ℕ) (vars now : Vars) (choices left : List Choice) (w : Option ℤ)
    → Source h.values h.heap e choices (value_of w left) → Leads g h.heap a vars choices m now left
    → IsPut g (freed h w) h.values place m b vars now h.heap left
    → IsPerformed g (λ r. WithValue h e place choices (λ v more other. other ≡ after rest place more (freed h v)) r) rest May place a b h.values vars h.heap choices
free_performed g h e rest May place a m b vars now choices left w is leads (put_faults kind change goes) =
    performed_faults kind (value_of w left, is, sym (ap (after rest place left) change)) (leads.goes _ goes)
free_performed g h e rest May place a m b vars now choices left w is leads (put_gives later change goes) =
    performed h.values vars later left (value_of w left, is, sym (ap (after rest place left) change)) (leads.goes _ goes) nothing_set

free_ended : (g : Graph) (h : Here) (e : Expr) (rest : Tasks) (May : Settable) (place : Place) (o : Operand) (ts : List VarId) (a n : ℕ) (s u : Stage) (vars : Vars) (choices : List Choice)
    → IsPoint g n plain place (Free o (point (goal_of s))) → Undefines g place ts s u → AreTemporaries g ts → IsClean g vars
    → Ended g (λ r. Source h.values h.heap e choices r) place [] ts o a n vars h.heap choices
    → IsPerformed g (λ r. WithValue h e place choices (λ v more other. other ≡ after rest place more (freed h v)) r) rest May place a (goal_of u) h.values vars h.heap choices
free_ended g h e rest May place o ts a n s u vars choices is undone are clean (ended_waits none never) = performed_waits (λ r q. none q.0 q.1) never
free_ended g h e rest May place o ts a n s u vars choices is undone are clean (ended_faults kind comes goes) = performed_faults kind (fault_of kind, comes, refl) goes
free_ended g h e rest May place o ts a n s u vars choices is undone are clean (ended_gives now w left comes leads new holds) =
    free_performed g h e rest May place a n (goal_of u) vars now choices left w comes leads
    (stored_put g h.values place (freed h w) ts s u n n vars now now h.heap left (freed h w) refl (record { goes = λ r go. go; never = λ none. none }) are new clean undone
    (value_frees g h place n (goal_of s) now left w (λ r d. step_at g n place (Free o (point (goal_of s))) now h.heap left r is (d ∙ sym (ap (flow.freed (point (goal_of s)) place (at n now h.heap) left) holds)))))

pub freeing : {g : Graph} {out : ℕ} {place : Place} {e : Expr} {o : Operand} {ts : List VarId} {s m n u : Stage} (h : Here) (rest : Tasks) (May : Settable) (vars : Vars) (choices : List Choice)
    → Evaluates g out place e [] s o ts m → Appends g plain place (λ q. Free o q) m n → Undefines g place ts n u → IsClean g vars → length vars ≡ length g.owners → Agree g out h.values vars
    → IsPerformed g (λ r. WithValue h e place choices (λ v more other. other ≡ after rest place more (freed h v)) r) rest May place (goal_of s) (goal_of u) h.values vars h.heap choices
freeing {g} {out} {place} {e} {o} {ts} {s} {m} {n} {u} h rest May vars choices evaluated (appends {n = i} {k = k} {b = b} is) undone clean long agree =
    free_ended g h e rest May place o ts (goal_of s) i (stage b (suc i) k) u vars choices is undone (temporaries evaluated (no_temporaries g)) clean
    (evaluating h.values vars h.heap choices evaluated (no_temporaries g) long agree)

-- ---- `+=` and `-=` of a variable
-- what the operation comes to is what the source makes of it
made_fault : (compute : ℤ → ℤ → ℤ) (values : Values) (heap : Heap) (x : ℕ) (a b : Option ℤ) (left : List Choice) (kind : FaultKind) → fault_of kind ≡ operated compute a b left
    → computed compute values heap (record { variable = x; fields = [] }) a b ≡ fault_in kind
made_fault compute values heap x None b left kind e = ap fault_in (same_kind Uninit kind (sym e))
  where
    kind_of : Evaluated → FaultKind
    kind_of (fault_of k) = k
    kind_of (value_of v rest) = Uninit

    same_kind : (k l : FaultKind) → fault_of k ≡ fault_of l → k ≡ l
    same_kind k l d = ap kind_of d
made_fault compute values heap x (Some u) None left kind e = ap fault_in (same_kind Uninit kind (sym e))
  where
    kind_of : Evaluated → FaultKind
    kind_of (fault_of k) = k
    kind_of (value_of v rest) = Uninit

    same_kind : (k l : FaultKind) → fault_of k ≡ fault_of l → k ≡ l
    same_kind k l d = ap kind_of d
made_fault compute values heap x (Some u) (Some w) left kind e = absurd (cc)

made_value : (compute : ℤ → ℤ → ℤ) (values : Values) (heap : Heap) (x : ℕ) (a b : Option ℤ) (left more : List Choice) (z : ℤ) → value_of (Some z) more ≡ operated compute a b left
    → (computed compute values heap (record { variable = x; fields = [] }) a b ≡ changed (with_variable values x (Some z)) heap) × (more ≡ left)
made_value compute values heap x None b left more z e = absurd (cc)
made_value compute values heap x (Some u) None left more z e = absurd (cc)
made_value compute values heap x (Some u) (Some w) left more z e =
    (ap (λ r. changed (with_variable values x (Some (value_there z r))) heap) (sym e), ap (rest_there left) e)

variable_changed : (g : Graph) (h : Here) (compute : ℤ → ℤ → ℤ) (operation : Operation) (x : ℕ) (v : VarId) (e : Expr) (rest : Tasks) (May : Settable) (out : ℕ) (place : Place) (o : Operand) (ts : List VarId) (a n : ℕ) (s u : Stage) (vars now : Vars) (choices left : List Choice) (w : Option ℤ)
    → May x v → slice_get g.owners v.0 ≡ Some (local out x) → ((r : Evaluated) → Comes operation now h.heap left r → r ≡ operated compute (value_in now v) (operand_value now o) left)
    → ((r : Evaluated) → r ≡ operated compute (value_in now v) (operand_value now o) left → Comes operation now h.heap left r)
    → Source h.values h.heap e choices (value_of w left) → Leads g h.heap a vars choices n now left → held h.values x ≡ value_in now v → operand_value now o ≡ w
    → AreTemporaries g ts → OnlyNew [] ts vars now → IsClean g vars → v.0 < length vars → Undefines g place ts s u
    → Operates g n place operation v (goal_of s) now h.heap left
    → IsPerformed g (λ r. Combines compute h (record { variable = x; fields = [] }) e place rest choices r) rest May place a (goal_of u) h.values vars h.heap choices
variable_changed g h compute operation x v e rest May out place o ts a n s u vars now choices left w may owned out_of into is leads same holds are new clean within undone (op_waits none never) =
    absurd (none (operated compute (value_in now v) (operand_value now o) left) (into _ refl))
variable_changed g h compute operation x v e rest May out place o ts a n s u vars now choices left w may owned out_of into is leads same holds are new clean within undone (op_faults kind comes step) =
    let there : fault_of kind ≡ operated compute (held h.values x) w left = out_of (fault_of kind) comes ∙ ap (λ z. operated compute z (operand_value now o) left) (sym same) ∙ ap (λ z. operated compute (held h.values x) z left) holds in
    performed_faults kind (value_of w left, is, sym (ap (after rest place left) (made_fault compute h.values h.heap x (held h.values x) w left kind there))) (leads.goes _ (one step))
variable_changed g h compute operation x v e rest May out place o ts a n s u vars now choices left w may owned out_of into is leads same holds are new clean within undone (op_gives z more comes step) =
    let there : value_of (Some z) more ≡ operated compute (held h.values x) w left = out_of (value_of (Some z) more) comes ∙ ap (λ y. operated compute y (operand_value now o) left) (sym same) ∙ ap (λ y. operated compute (held h.values x) y left) holds in
    let made : (computed compute h.values h.heap (record { variable = x; fields = [] }) (held h.values x) w ≡ changed (with_variable h.values x (Some z)) h.heap) × (more ≡ left) = made_value compute h.values h.heap x (held h.values x) w left more z there in
    performed (with_variable h.values x (Some z)) (with_value vars v (Some z)) h.heap left (value_of w left, is, sym (ap (after rest place left) made.0))
    (subst (λ y. Goes (FlowStep g) (at a vars h.heap) choices (next (at (goal_of u) y h.heap) left)) (cleaned g ts vars now v (Some z) are new clean within (λ in_ts. not_temporary g ts v (local out x) are owned refl in_ts))
    (leads.goes _ (undefines_goes (at n now h.heap) h.heap left left (with_value now v (Some z)) undone (subst (λ c. FlowStep g (at n now h.heap) left (next (at (goal_of s) (with_value now v (Some z)) h.heap) c)) made.1 step))))
    (one_set x v (Some z) may)

variable_ended : (g : Graph) (h : Here) (compute : ℤ → ℤ → ℤ) (operation : Operation) (x : ℕ) (v : VarId) (e : Expr) (rest : Tasks) (May : Settable) (out : ℕ) (place : Place) (o : Operand) (ts : List VarId) (a n : ℕ) (s u : Stage) (vars : Vars) (choices : List Choice)
    → May x v → slice_get g.owners v.0 ≡ Some (local out x) → ((now : Vars) (left : List Choice) (r : Evaluated) → Comes operation now h.heap left r → r ≡ operated compute (value_in now v) (operand_value now o) left)
    → ((now : Vars) (left : List Choice) (r : Evaluated) → r ≡ operated compute (value_in now v) (operand_value now o) left → Comes operation now h.heap left r)
    → AreTemporaries g ts → IsClean g vars → v.0 < length vars → Agree g out h.values vars → Undefines g place ts s u
    → ((now : Vars) (left : List Choice) → Operates g n place operation v (goal_of s) now h.heap left)
    → Ended g (λ r. Source h.values h.heap e choices r) place [] ts o a n vars h.heap choices
    → IsPerformed g (λ r. Combines compute h (record { variable = x; fields = [] }) e place rest choices r) rest May place a (goal_of u) h.values vars h.heap choices
variable_ended g h compute operation x v e rest May out place o ts a n s u vars choices may owned out_of into are clean within agree undone operate (ended_waits none never) = performed_waits (λ r q. none q.0 q.1) never
variable_ended g h compute operation x v e rest May out place o ts a n s u vars choices may owned out_of into are clean within agree undone operate (ended_faults kind comes goes) = performed_faults kind (fault_of kind, comes, refl) goes
variable_ended g h compute operation x v e rest May out place o ts a n s u vars choices may owned out_of into are clean within agree undone operate (ended_gives now w left comes leads new holds) =
    variable_changed g h compute operation x v e rest May out place o ts a n s u vars now choices left w may owned (out_of now left) (into now left) comes leads
    ((agree_later g out h.values [] ts vars now are new agree).same x v.0 owned) holds are new clean within undone (operate now left)

pub adding : {g : Graph} {out x : ℕ} {place : Place} {e : Expr} {v : VarId} {o : Operand} {ts : List VarId} {s m r u : Stage} (h : Here) (rest : Tasks) (May : Settable) (vars : Vars) (choices : List Choice)
    → Evaluates g out place e [] s o ts m → May x v → IsMade g (local out x) v m → Appends g plain place (λ q. sets (a_sum (Var v) o) v q) m r → Undefines g place ts r u
    → IsClean g vars → length vars ≡ length g.owners → Agree g out h.values vars
    → IsPerformed g (λ z. Combines (λ y w. y +ℤ w) h (record { variable = x; fields = [] }) e place rest choices z) rest May place (goal_of s) (goal_of u) h.values vars h.heap choices
adding {g} {out} {x} {place} {e} {v} {o} {ts} {s} {m} {r} {u} h rest May vars choices evaluated may (is_made owned earlier) (appends {n = n} {k = k} {b = b} is) undone clean long agree =
    let within : v.0 < length g.owners = slice_get_within g.owners v.0 (local out x) owned in
    variable_ended g h (λ y w. y +ℤ w) (a_sum (Var v) o) x v e rest May out place o ts (goal_of s) n (stage b (suc n) k) u vars choices may owned (λ now left z c. c) (λ now left z c. c)
    (temporaries evaluated (no_temporaries g)) clean (omega (arith, within, long)) agree undone (λ now left. operates g n place (a_sum (Var v) o) v b now h.heap left is)
    (evaluating h.values vars h.heap choices evaluated (no_temporaries g) long agree)

pub subtracting : {g : Graph} {out x : ℕ} {place : Place} {e : Expr} {v : VarId} {o : Operand} {ts : List VarId} {s m r u : Stage} (h : Here) (rest : Tasks) (May : Settable) (vars : Vars) (choices : List Choice)
    → Evaluates g out place e [] s o ts m → May x v → IsMade g (local out x) v m → Appends g plain place (λ q. sets (a_difference (Var v) o) v q) m r → Undefines g place ts r u
    → IsClean g vars → length vars ≡ length g.owners → Agree g out h.values vars
    → IsPerformed g (λ z. Combines (λ y w. y -ℤ w) h (record { variable = x; fields = [] }) e place rest choices z) rest May place (goal_of s) (goal_of u) h.values vars h.heap choices
subtracting {g} {out} {x} {place} {e} {v} {o} {ts} {s} {m} {r} {u} h rest May vars choices evaluated may (is_made owned earlier) (appends {n = n} {k = k} {b = b} is) undone clean long agree =
    let within : v.0 < length g.owners = slice_get_within g.owners v.0 (local out x) owned in
    variable_ended g h (λ y w. y -ℤ w) (a_difference (Var v) o) x v e rest May out place o ts (goal_of s) n (stage b (suc n) k) u vars choices may owned (λ now left z c. c) (λ now left z c. c)
    (temporaries evaluated (no_temporaries g)) clean (omega (arith, within, long)) agree undone (λ now left. operates g n place (a_difference (Var v) o) v b now h.heap left is)
    (evaluating h.values vars h.heap choices evaluated (no_temporaries g) long agree)
