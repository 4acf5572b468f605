-- A variable of the flow graph is set to a value, and conditions are decided.
use Rattle.std.proofs.Common.{◌<◌, ◌≡◌, ℕ, suc, ℤ, List, [], Option, Some, None, length, sym, ap, subst}
use Rattle.std.specs.Prelude.{Contains}
use Rattle.mc_base.specs.declared.ids.VarId.{VarId}
use Rattle.mc_base.specs.declared.plain.FaultKind.{FaultKind}
use Rattle.mc_base.specs.declared.plain.FaultKind.TheVariants.{Uninit}
use Rattle.mc_flow.specs.Runs.{next, last as finished, fault}
use Rattle.mc_base.specs.declared.text.place.Place.{Place}
use Rattle.mc_flow.specs.Heap.Heap.{Heap}
use Rattle.mc_flow.specs.Heap.Choices.{Choice}
use Rattle.mc_flow.specs.Values.{value_of as operand_value, with_value}
use Rattle.mc_flow.specs.declared.instr.Operand.{Operand}
use Rattle.mc_flow.specs.declared.instr.Instr.TheVariants.{Copy}
use Rattle.mc_flow.specs.Steps as flow
use Rattle.mc_semantics.specs.Values.{Evaluated, fault_of, value_of}
use Rattle.mc_semantics.specs.Resolved.Configs.{Values, Result}
use Rattle.mc_semantics.specs.Resolved.Programs.{Expr, expression}
use Rattle.mc_semantics.specs.Resolved.Values.{Evaluates as Source}
use Rattle.mc_lower_spec.specs.Graphs.{Graph, Stage, stage, plain, point, IsPoint, appends, Undefines}
use Rattle.mc_lower_spec.specs.Values.{Operation, sets}
use Rattle.mc_lower_spec.specs.Lowering.{SetsTo, sets_operand, sets_computed}
use Rattle.mc_lower_spec.specs.Runs.{FlowStep}
use Rattle.mc_lower_spec.proofs.Simulating.{Goes, one}
use Rattle.mc_lower_spec.proofs.Stepping.{Vars, at, Never, step_at, Operates, op_waits, op_faults, op_gives, operates}
use Rattle.mc_lower_spec.proofs.Stages.{goal_of}
use Rattle.mc_lower_spec.proofs.Evaluating.{AreTemporaries, no_temporaries, OnlyNew, Agree, Leads, Ended, ended_waits, ended_faults, ended_gives, Ready, ready_waits, ready_faults, ready, evaluating, computing, computes_temporaries}
use Rattle.mc_lower_spec.proofs.Changing.{IsClean, cleaned, same_list, undefines_goes}

-- ---- a variable is set
-- What the source does with a value: P is its step, which has a fault where the expression has one or is undefined, and goes on to R where
-- it has a value.
pub record Uses (e : Expr) (place : Place) (values : Values) (heap : Heap) (choices : List Choice) (P : Result → Type 0) (R : ℤ → List Choice → Result) : Type 0 where
  pub faulty : (kind : FaultKind) → Source values heap e choices (fault_of kind) → P (finished (fault kind place))
  pub undefined : (left : List Choice) → Source values heap e choices (value_of None left) → P (finished (fault Uninit place))
  pub defined : (u : ℤ) (left : List Choice) → Source values heap e choices (value_of (Some u) left) → P (R u left)
  pub evaluates : (r : Result) → P r → (one_of : Evaluated) × Source values heap e choices one_of

-- both wait, both have the same fault, or both go on with the value
pub data IsSet (g : Graph) (P : Result → Type 0) (R : ℤ → List Choice → Result) (place : Place) (v : VarId) (a b : ℕ) (vars : Vars) (heap : Heap) (choices : List Choice) : Type 0 where
  set_waits : ((r : Result) → P r → ⊥) → Never g (at a vars heap) choices → IsSet g P R place v a b vars heap choices
  set_faults : (kind : FaultKind) → P (finished (fault kind place)) → Goes (FlowStep g) (at a vars heap) choices (finished (fault kind place)) → IsSet g P R place v a b vars heap choices
  set_gives : (u : ℤ) (left : List Choice) → P (R u left) → Goes (FlowStep g) (at a vars heap) choices (next (at b (with_value vars v (Some u)) heap) left)
      → IsSet g P R place v a b vars heap choices

-- without a temporary nothing is changed
unchanged : (vars later : Vars) → OnlyNew [] [] vars later → later ≡ vars
unchanged vars later new = same_list later vars new.long (λ i. new.same (record { 0 = i }) (λ there. there))

copied_set : (g : Graph) (e : Expr) (values : Values) (P : Result → Type 0) (R : ℤ → List Choice → Result) (place : Place) (v : VarId) (o : Operand) (a n b : ℕ) (vars : Vars) (heap : Heap) (choices left : List Choice) (w : Option ℤ)
    → Uses e place values heap choices P R → IsPoint g n plain place (Copy v o (point b)) → Source values heap e choices (value_of w left)
    → Leads g heap a vars choices n vars left → operand_value vars o ≡ w → IsSet g P R place v a b vars heap choices
copied_set g e values P R place v o a n b vars heap choices left None uses is comes leads holds =
    set_faults Uninit (uses.undefined left comes)
    (leads.goes _ (one (step_at g n place (Copy v o (point b)) vars heap left (finished (fault Uninit place)) is (sym (ap (flow.copied v (point b) place (at n vars heap) left) holds)))))
copied_set g e values P R place v o a n b vars heap choices left (Some u) uses is comes leads holds =
    set_gives u left (uses.defined u left comes)
    (leads.goes _ (one (step_at g n place (Copy v o (point b)) vars heap left (next (at b (with_value vars v (Some u)) heap) left) is (sym (ap (flow.copied v (point b) place (at n vars heap) left) holds)))))

operand_set : (g : Graph) (e : Expr) (values : Values) (P : Result → Type 0) (R : ℤ → List Choice → Result) (place : Place) (v : VarId) (o : Operand) (a n b : ℕ) (vars : Vars) (heap : Heap) (choices : List Choice)
    → Uses e place values heap choices P R → IsPoint g n plain place (Copy v o (point b))
    → Ended g (λ r. Source values heap e choices r) place [] [] o a n vars heap choices → IsSet g P R place v a b vars heap choices
operand_set g e values P R place v o a n b vars heap choices uses is (ended_waits none never) = set_waits (λ r p. let some = uses.evaluates r p in none some.0 some.1) never
operand_set g e values P R place v o a n b vars heap choices uses is (ended_faults kind comes goes) = set_faults kind (uses.faulty kind comes) goes
operand_set g e values P R place v o a n b vars heap choices uses is (ended_gives later w left comes leads new holds) =
    let same : later ≡ vars = unchanged vars later new in
    copied_set g e values P R place v o a n b vars heap choices left w uses is comes
    (subst (λ z. Leads g heap a vars choices n z left) same leads) (subst (λ z. operand_value z o ≡ w) same holds)

computed_set : (g : Graph) (e : Expr) (values : Values) (P : Result → Type 0) (R : ℤ → List Choice → Result) (place : Place) (v : VarId) (operation : Operation) (us : List VarId) (a n : ℕ) (s u : Stage) (vars : Vars) (heap : Heap) (choices : List Choice)
    → Uses e place values heap choices P R → IsPoint g n plain place (sets operation v (point (goal_of s))) → Undefines g place us s u
    → AreTemporaries g us → IsClean g vars → v.0 < length vars → (Contains us v → ⊥)
    → Ready g (λ r. Source values heap e choices r) place [] us operation a n vars heap choices → IsSet g P R place v a (goal_of u) vars heap choices
computed_set g e values P R place v operation us a n s u vars heap choices uses is undone are clean within free (ready_waits none never) =
    set_waits (λ r p. let some = uses.evaluates r p in none some.0 some.1) never
computed_set g e values P R place v operation us a n s u vars heap choices uses is undone are clean within free (ready_faults kind comes goes) =
    set_faults kind (uses.faulty kind comes) goes
computed_set g e values P R place v operation us a n s u vars heap choices uses is undone are clean within free (ready later left leads new into out) =
    last_one (operates g n place operation v (goal_of s) later heap left is)
  where
    last_one : Operates g n place operation v (goal_of s) later heap left → IsSet g P R place v a (goal_of u) vars heap choices
    last_one (op_waits none never) = set_waits (λ r p. let some = uses.evaluates r p in none some.0 (out some.0 some.1)) (leads.never never)
    last_one (op_faults kind comes step) = set_faults kind (uses.faulty kind (into (fault_of kind) comes)) (leads.goes _ (one step))
    last_one (op_gives w rest comes step) =
        set_gives w rest (uses.defined w rest (into (value_of (Some w) rest) comes))
        (subst (λ z. Goes (FlowStep g) (at a vars heap) choices (next (at (goal_of u) z heap) rest)) (cleaned g us vars later v (Some w) are new clean within free)
        (leads.goes _ (undefines_goes (at n later heap) heap left rest (with_value later v (Some w)) undone step)))

-- an expression is put into a variable of the flow graph that is no temporary
pub setting : {g : Graph} {out : ℕ} {place : Place} {v : VarId} {e : Expr} {s u : Stage} (values : Values) (P : Result → Type 0) (R : ℤ → List Choice → Result) (vars : Vars) (heap : Heap) (choices : List Choice)
    → SetsTo g out place v (expression e) s u → Uses e place values heap choices P R → IsClean g vars → length vars ≡ length g.owners → Agree g out values vars
    → v.0 < length vars → ((ts : List VarId) → AreTemporaries g ts → Contains ts v → ⊥)
    → IsSet g P R place v (goal_of s) (goal_of u) vars heap choices
setting {g} {out} {place} {v} {e} {s} {u} values P R vars heap choices (sets_operand {o = o} evaluated (appends {n = n} {b = b} is)) uses clean long agree within free =
    operand_set g e values P R place v o n n b vars heap choices uses is (evaluating values vars heap choices evaluated (no_temporaries g) long agree)
setting {g} {out} {place} {v} {e} {s} {u} values P R vars heap choices (sets_computed {operation = operation} {ts = ts} {r = r} computed (appends {n = n} {k = k} {b = b} is) undone) uses clean long agree within free =
    let are : AreTemporaries g ts = computes_temporaries computed (no_temporaries g) in
    computed_set g e values P R place v operation ts (goal_of s) n (stage b (suc n) k) u vars heap choices uses is undone are clean within (free ts are)
    (computing values vars heap choices computed (no_temporaries g) long agree)
