-- Simple statements without calls go on together with their points.
use Rattle.std.proofs.Common.{◌<◌, ◌≡◌, ℕ, ℤ, List, [], ◌∷◌, Option, Some, None, length, refl, sym, ap, ◌∙◌, arith}
use Rattle.std.proofs.lemmas.Option.{slice_get_within}
use Rattle.mc_base.specs.declared.ids.VarId.{VarId}
use Rattle.mc_base.specs.declared.plain.FaultKind.{FaultKind}
use Rattle.mc_flow.specs.Runs.{next, last as finished, fault}
use Rattle.mc_base.specs.declared.text.place.Place.{Place}
use Rattle.mc_flow.specs.Heap.Heap.{Heap}
use Rattle.mc_flow.specs.Heap.Choices.{Choice}
use Rattle.mc_flow.specs.Values.{value_of as operand_value, with_value}
use Rattle.mc_flow.specs.declared.instr.Operand.{Operand}
use Rattle.mc_semantics.specs.Values.{fault_of, value_of}
use Rattle.mc_semantics.specs.Resolved.Configs.{Values, with_variable, Tasks, Result}
use Rattle.mc_semantics.specs.Resolved.Programs.{FieldAt, Expr, expression, Program}
use Rattle.mc_semantics.specs.Resolved.Steps.{Here, after, Assigns}
use Rattle.mc_semantics.specs.Resolved.Values.{assigned, Evaluates as Source}
use Rattle.mc_lower_spec.specs.Graphs.{Graph, local, Stage, IsMade, is_made}
use Rattle.mc_lower_spec.specs.Values.{puts_field}
use Rattle.mc_lower_spec.specs.Lowering.{Assigns as LowersTo, assigns_variable, assigns_field}
use Rattle.mc_lower_spec.specs.Runs.{FlowStep}
use Rattle.mc_lower_spec.proofs.Simulating.{Goes}
use Rattle.mc_lower_spec.proofs.Stepping.{Vars, at, Never}
use Rattle.mc_lower_spec.proofs.Stages.{goal_of}
use Rattle.mc_lower_spec.proofs.Evaluating.{AreTemporaries, no_temporaries, not_temporary, OnlyNew, Agree, agree_later, Leads, Ended, ended_waits, ended_faults, ended_gives, evaluating, temporaries, kept}
use Rattle.mc_lower_spec.proofs.Changing.{IsClean}
use Rattle.mc_lower_spec.proofs.Setting.{Uses, IsSet, set_waits, set_faults, set_gives, setting}
use Rattle.mc_lower_spec.proofs.Storing.{IsPut, put_faults, put_gives, putting}

-- ---- what comes of a statement
-- which variable of the source may be set, and with it this one of the flow graph
abbrev pub Settable : Type 1
Settable = ℕ → VarId → Type 0

-- the variables of both are as before, or one of them is set in both
pub data Changes (May : Settable) (values : Values) (vars : Vars) : Values → Vars → Type 0 where
  nothing_set : Changes May values vars values vars
  one_set : (x : ℕ) (v : VarId) (w : Option ℤ) → May x v → Changes May values vars (with_variable values x w) (with_value vars v w)

-- both wait, both have the same fault, or both go on with the same change
pub data IsPerformed (g : Graph) (P : Result → Type 0) (rest : Tasks) (May : Settable) (place : Place) (a b : ℕ) (values : Values) (vars : Vars) (heap : Heap) (choices : List Choice) : Type 0 where
  performed_waits : ((r : Result) → P r → ⊥) → Never g (at a vars heap) choices → IsPerformed g P rest May place a b values vars heap choices
  performed_faults : (kind : FaultKind) → P (finished (fault kind place)) → Goes (FlowStep g) (at a vars heap) choices (finished (fault kind place)) → IsPerformed g P rest May place a b values vars heap choices
  performed : (later : Values) (now : Vars) (after_heap : Heap) (left : List Choice) → P (next (record { tasks = rest; values = later; heap = after_heap }) left)
      → Goes (FlowStep g) (at a vars heap) choices (next (at b now after_heap) left) → Changes May values vars later now → IsPerformed g P rest May place a b values vars heap choices

-- ---- a variable gets a value
variable_uses : (p : Program) (h : Here) (x : ℕ) (e : Expr) (place : Place) (rest : Tasks) (choices : List Choice)
    → Uses e place h.values h.heap choices (λ r. Assigns p h (record { variable = x; fields = [] }) (expression e) place rest choices r)
    (λ u left. next (record { tasks = rest; values = with_variable h.values x (Some u); heap = h.heap }) left)
variable_uses p h x e place rest choices =
    record {
      faulty = λ kind is. (fault_of kind, is, refl);
      undefined = λ left is. (value_of None left, is, refl);
      defined = λ u left is. (value_of (Some u) left, is, refl);
      evaluates = λ r q. (q.0, q.1);
    }

variable_performed : (g : Graph) (P : Result → Type 0) (rest : Tasks) (May : Settable) (place : Place) (x : ℕ) (v : VarId) (a b : ℕ) (values : Values) (vars : Vars) (heap : Heap) (choices : List Choice)
    → May x v
    → IsSet g P (λ u left. next (record { tasks = rest; values = with_variable values x (Some u); heap = heap }) left) place v a b vars heap choices
    → IsPerformed g P rest May place a b values vars heap choices
variable_performed g P rest May place x v a b values vars heap choices may (set_waits none never) = performed_waits none never
variable_performed g P rest May place x v a b values vars heap choices may (set_faults kind is goes) = performed_faults kind is goes
variable_performed g P rest May place x v a b values vars heap choices may (set_gives u left is goes) =
    performed (with_variable values x (Some u)) (with_value vars v (Some u)) heap left is goes (one_set x v (Some u) may)

-- ---- a field gets a value
put_performed : (g : Graph) (p : Program) (h : Here) (x : ℕ) (f : FieldAt) (fs : List FieldAt) (e : Expr) (rest : Tasks) (May : Settable) (place : Place) (a m b : ℕ) (vars now : Vars) (choices left : List Choice) (w : Option ℤ)
    → Source h.values h.heap e choices (value_of w left) → Leads g h.heap a vars choices m now left
    → IsPut g (assigned h.values h.heap (record { variable = x; fields = f ∷ fs }) w) h.values place m b vars now h.heap left
    → IsPerformed g (λ r. Assigns p h (record { variable = x; fields = f ∷ fs }) (expression e) place rest choices r) rest May place a b h.values vars h.heap choices
put_performed g p h x f fs e rest May place a m b vars now choices left w is leads (put_faults kind change goes) =
    performed_faults kind (value_of w left, is, sym (ap (after rest place left) change)) (leads.goes _ goes)
put_performed g p h x f fs e rest May place a m b vars now choices left w is leads (put_gives later change goes) =
    performed h.values vars later left (value_of w left, is, sym (ap (after rest place left) change)) (leads.goes _ goes) nothing_set

field_performed : (g : Graph) (p : Program) (h : Here) (x : ℕ) (f : FieldAt) (fs : List FieldAt) (e : Expr) (rest : Tasks) (May : Settable) (place : Place) (o : Operand) (ts : List VarId) (a m b : ℕ) (vars : Vars) (choices : List Choice)
    → ((now : Vars) (left : List Choice) (w : Option ℤ) → OnlyNew [] ts vars now → operand_value now o ≡ w
    → IsPut g (assigned h.values h.heap (record { variable = x; fields = f ∷ fs }) w) h.values place m b vars now h.heap left)
    → Ended g (λ r. Source h.values h.heap e choices r) place [] ts o a m vars h.heap choices
    → IsPerformed g (λ r. Assigns p h (record { variable = x; fields = f ∷ fs }) (expression e) place rest choices r) rest May place a b h.values vars h.heap choices
field_performed g p h x f fs e rest May place o ts a m b vars choices puts (ended_waits none never) = performed_waits (λ r q. none q.0 q.1) never
field_performed g p h x f fs e rest May place o ts a m b vars choices puts (ended_faults kind is goes) = performed_faults kind (fault_of kind, is, refl) goes
field_performed g p h x f fs e rest May place o ts a m b vars choices puts (ended_gives now w left is leads new holds) =
    put_performed g p h x f fs e rest May place a m b vars now choices left w is leads (puts now left w new holds)

-- an assignment of an expression
pub assigning : {g : Graph} {out : ℕ} {place : Place} {l : Rattle.mc_semantics.specs.Resolved.Programs.Left} {e : Expr} {s u : Stage} (p : Program) (h : Here) (rest : Tasks) (May : Settable) (vars : Vars) (choices : List Choice)
    → LowersTo g out place l (expression e) s u → ((v : VarId) → IsMade g (local out l.variable) v s → May l.variable v) → IsClean g vars → length vars ≡ length g.owners → Agree g out h.values vars
    → IsPerformed g (λ r. Assigns p h l (expression e) place rest choices r) rest May place (goal_of s) (goal_of u) h.values vars h.heap choices
assigning {g} {out} {place} {e = e} {s = s} {u = u} p h rest May vars choices (assigns_variable {x = x} {v = v} (is_made owned earlier) sets) may clean long agree =
    let within : v.0 < length g.owners = slice_get_within g.owners v.0 (local out x) owned in
    variable_performed g (λ r. Assigns p h (record { variable = x; fields = [] }) (expression e) place rest choices r) rest May place x v (goal_of s) (goal_of u) h.values vars h.heap choices (may v (is_made owned earlier))
    (setting h.values (λ r. Assigns p h (record { variable = x; fields = [] }) (expression e) place rest choices r)
    (λ w left. next (record { tasks = rest; values = with_variable h.values x (Some w); heap = h.heap }) left) vars h.heap choices sets
    (variable_uses p h x e place rest choices) clean long agree (omega (arith, within, long)) (λ ts are there. not_temporary g ts v (local out x) are owned refl there))
assigning {g} {out} {place} {e = e} {s = s} {u = u} p h rest May vars choices (assigns_field {x = x} {f = f} {fs = fs} {o = o} {ts = ts} {m = m} evaluated (puts_field {y = y} {us = us} (is_made owned earlier) walk stores undone)) may clean long agree =
    let are : AreTemporaries g ts = temporaries evaluated (no_temporaries g) in
    field_performed g p h x f fs e rest May place o ts (goal_of s) (goal_of m) (goal_of u) vars choices
    (λ now left w new holds.
    putting h.values (Rattle.mc_semantics.specs.Resolved.Configs.held h.values x) w vars now h.heap left walk stores undone are new clean (new.long ∙ long)
    (kept us evaluated (Rattle.mc_lower_spec.proofs.Evaluating.walk_temporaries walk are)) holds ((agree_later g out h.values [] ts vars now are new agree).same x y.0 owned))
    (evaluating h.values vars h.heap choices evaluated (no_temporaries g) long agree)
