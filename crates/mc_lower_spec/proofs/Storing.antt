-- A value is put into a variable or a field.
use Rattle.std.proofs.Common.{◌≡◌, ℕ, suc, ℤ, Bool, true, false, List, [], ◌∷◌, Option, Some, None, length, refl, sym, ap, ◌∙◌, subst, arith}
use Rattle.std.specs.Prelude.{Contains, ◌==◌, is_some, if◌then◌else◌}
use Rattle.std.specs.FinMap as map
use Rattle.mc_base.specs.declared.ids.VarId.{VarId}
use Rattle.mc_base.specs.declared.plain.FaultKind.{FaultKind}
use Rattle.mc_base.specs.declared.plain.FaultKind.TheVariants.{Uninit, Null, Freed}
use Rattle.mc_flow.specs.Runs.{next, last as finished, fault}
use Rattle.mc_base.specs.declared.text.place.Place.{Place}
use Rattle.mc_flow.specs.Heap.Heap.{Block, Heap, region_of}
use Rattle.mc_flow.specs.Heap.Access.{block_field, with_field}
use Rattle.mc_flow.specs.Heap.Choices.{Choice}
use Rattle.mc_flow.specs.Values.{value_in, value_of as operand_value, address}
use Rattle.mc_flow.specs.declared.instr.Operand.{Operand}
use Rattle.mc_flow.specs.declared.instr.Instr.TheVariants.{Store}
use Rattle.mc_flow.specs.Steps as flow
use Rattle.mc_semantics.specs.Values.{Found, faulty, found}
use Rattle.mc_semantics.specs.Resolved.Configs.{Values}
use Rattle.mc_semantics.specs.Resolved.Programs.{FieldAt}
use Rattle.mc_semantics.specs.Resolved.Values.{Changed, fault_in, changed, put, written, loaded, behind_base, assigned_behind}
use Rattle.mc_lower_spec.specs.Graphs.{Graph, Stage, stage, plain, point, IsPoint, Appends, appends, Undefines}
use Rattle.mc_lower_spec.specs.Values.{struct_at, Walks, walks_none, walks}
use Rattle.mc_lower_spec.specs.Runs.{FlowStep}
use Rattle.mc_lower_spec.proofs.Simulating.{Goes, one}
use Rattle.mc_lower_spec.proofs.Stepping.{Vars, at, step_at}
use Rattle.mc_lower_spec.proofs.Stages.{goal_of}
use Rattle.mc_lower_spec.proofs.Evaluating.{AreTemporaries, OnlyNew, both_new, Leads, Walked, walked_faults, walked, walking, walk_temporaries, walk_grows, base_value, Kept, kept_value}
use Rattle.mc_lower_spec.proofs.Changing.{IsClean, restored, undefines_goes}

-- ---- the Store itself
-- both have the same fault, or both change the heap alike
pub data Stores (g : Graph) (change : Changed) (values : Values) (place : Place) (n q : ℕ) (vars : Vars) (heap : Heap) (choices : List Choice) : Type 0 where
  stores_faults : (kind : FaultKind) → change ≡ fault_in kind → FlowStep g (at n vars heap) choices (finished (fault kind place)) → Stores g change values place n q vars heap choices
  stores_gives : (later : Heap) → change ≡ changed values later → FlowStep g (at n vars heap) choices (next (at q vars later) choices) → Stores g change values place n q vars heap choices

field_stores : (g : Graph) (values : Values) (place : Place) (n q : ℕ) (vars : Vars) (heap : Heap) (choices : List Choice) (p : ℕ) (f : FieldAt) (v : ℤ) (block : Block) (there : Bool) (change : Changed)
    → change ≡ (if there then changed values (map.insert heap p (with_field block f.field v)) else fault_in Freed)
    → ((r : flow.Result) → r ≡ flow.put (point q) place (at n vars heap) choices (if there then Some (map.insert heap p (with_field block f.field v)) else None) → FlowStep g (at n vars heap) choices r)
    → Stores g change values place n q vars heap choices
field_stores g values place n q vars heap choices p f v block true change e step = stores_gives (map.insert heap p (with_field block f.field v)) e (step _ refl)
field_stores g values place n q vars heap choices p f v block false change e step = stores_faults Freed e (step _ refl)

block_stores : (g : Graph) (values : Values) (place : Place) (n q : ℕ) (vars : Vars) (heap : Heap) (choices : List Choice) (p : ℕ) (f : FieldAt) (v : ℤ) (block : Option Block) (change : Changed)
    → change ≡ written values heap p f v block
    → ((r : flow.Result) → r ≡ flow.put (point q) place (at n vars heap) choices (flow.written heap p (struct_at f.shape) f.field v block) → FlowStep g (at n vars heap) choices r)
    → Stores g change values place n q vars heap choices
block_stores g values place n q vars heap choices p f v None change e step = stores_faults Freed e (step _ refl)
block_stores g values place n q vars heap choices p f v (Some block) change e step =
    field_stores g values place n q vars heap choices p f v block (is_some (block_field block f.shape f.field)) change e step

null_stores : (g : Graph) (values : Values) (place : Place) (n q : ℕ) (vars : Vars) (heap : Heap) (choices : List Choice) (p : ℤ) (f : FieldAt) (v : ℤ) (null : Bool) (change : Changed)
    → change ≡ (if null then fault_in Null else written values heap (address p) f v (region_of heap (address p)))
    → ((r : flow.Result) → r ≡ (if null then finished (fault Null place) else flow.put (point q) place (at n vars heap) choices (flow.written heap (address p) (struct_at f.shape) f.field v (region_of heap (address p))))
    → FlowStep g (at n vars heap) choices r)
    → Stores g change values place n q vars heap choices
null_stores g values place n q vars heap choices p f v true change e step = stores_faults Null e (step _ refl)
null_stores g values place n q vars heap choices p f v false change e step = block_stores g values place n q vars heap choices (address p) f v (region_of heap (address p)) change e step

value_stores : (g : Graph) (values : Values) (place : Place) (n q : ℕ) (vars : Vars) (heap : Heap) (choices : List Choice) (f : FieldAt) (v base : Option ℤ) (change : Changed)
    → change ≡ put values heap f v base
    → ((r : flow.Result) → r ≡ flow.stored (struct_at f.shape) f.field (point q) place (at n vars heap) choices v base → FlowStep g (at n vars heap) choices r)
    → Stores g change values place n q vars heap choices
value_stores g values place n q vars heap choices f None base change e step = stores_faults Uninit e (step _ refl)
value_stores g values place n q vars heap choices f (Some v) None change e step = stores_faults Uninit e (step _ refl)
value_stores g values place n q vars heap choices f (Some v) (Some p) change e step = null_stores g values place n q vars heap choices p f v (address p == 0) change e step

pub store_step : (g : Graph) (values : Values) (place : Place) (n q : ℕ) (z : VarId) (f : FieldAt) (o : Operand) (vars : Vars) (heap : Heap) (choices : List Choice)
    → IsPoint g n plain place (Store z (struct_at f.shape) f.field o (point q))
    → Stores g (put values heap f (operand_value vars o) (value_in vars z)) values place n q vars heap choices
store_step g values place n q z f o vars heap choices is =
    value_stores g values place n q vars heap choices f (operand_value vars o) (value_in vars z) (put values heap f (operand_value vars o) (value_in vars z)) refl
    (λ r e. step_at g n place (Store z (struct_at f.shape) f.field o (point q)) vars heap choices r is e)

-- ---- the whole assignment of a field
assigned_chain : (values : Values) (heap : Heap) (h last : FieldAt) (hs : List FieldAt) (w : Option ℤ) (x : Found)
    → ((v : Option ℤ) → assigned_behind values heap v h hs w ≡ behind_base (base_value heap v (h ∷ hs)) (λ y. put values heap last w y))
    → behind_base x (λ v. assigned_behind values heap v h hs w) ≡ behind_base (Rattle.mc_semantics.specs.Values.after_found x (λ v. base_value heap v (h ∷ hs))) (λ y. put values heap last w y)
assigned_chain values heap h last hs w (faulty kind) each = refl
assigned_chain values heap h last hs w (found v) each = each v

-- the last field is written, of the variable that has it
pub assigned_at_last : {g : Graph} {place : Place} {y z : VarId} {f : FieldAt} {fs : List FieldAt} {ts us : List VarId} {s u : Stage} {last : FieldAt} (values : Values) (heap : Heap) (v w : Option ℤ)
    → Walks g place y (f ∷ fs) ts s z last us u → assigned_behind values heap v f fs w ≡ behind_base (base_value heap v (f ∷ fs)) (λ y. put values heap last w y)
assigned_at_last values heap v w walks_none = refl
assigned_at_last {last = last} values heap v w (walks {f = f} {h = h} {fs = hs} kind first rest) =
    assigned_chain values heap h last hs w (loaded heap f v) (λ x. assigned_at_last values heap x w rest)

-- both have the same fault, or the heap is changed alike, and the variables are as they were before the temporaries
pub data IsPut (g : Graph) (change : Changed) (values : Values) (place : Place) (a b : ℕ) (vars now : Vars) (heap : Heap) (choices : List Choice) : Type 0 where
  put_faults : (kind : FaultKind) → change ≡ fault_in kind → Goes (FlowStep g) (at a now heap) choices (finished (fault kind place)) → IsPut g change values place a b vars now heap choices
  put_gives : (later : Heap) → change ≡ changed values later → Goes (FlowStep g) (at a now heap) choices (next (at b vars later) choices) → IsPut g change values place a b vars now heap choices

pub stored_put : (g : Graph) (values : Values) (place : Place) (change : Changed) (us : List VarId) (s u : Stage) (a n : ℕ) (vars now later : Vars) (heap : Heap) (choices : List Choice) (stored : Changed)
    → change ≡ stored → Leads g heap a now choices n later choices → AreTemporaries g us → OnlyNew [] us vars later → IsClean g vars → Undefines g place us s u
    → Stores g stored values place n (goal_of s) later heap choices → IsPut g change values place a (goal_of u) vars now heap choices
stored_put g values place change us s u a n vars now later heap choices stored e leads are new clean undone (stores_faults kind k step) = put_faults kind (e ∙ k) (leads.goes _ (one step))
stored_put g values place change us s u a n vars now later heap choices stored e leads are new clean undone (stores_gives after k step) =
    put_gives after (e ∙ k)
    (subst (λ z. Goes (FlowStep g) (at a now heap) choices (next (at (goal_of u) z after) choices)) (restored g us vars later are new clean)
    (leads.goes _ (undefines_goes (at n later heap) after choices choices later undone step)))

walked_put : (g : Graph) (values : Values) (place : Place) (change : Changed) (base : Found) (z : VarId) (last : FieldAt) (o : Operand) (w : Option ℤ) (ts us : List VarId) (s u : Stage) (a n : ℕ) (vars now : Vars) (heap : Heap) (choices : List Choice)
    → change ≡ behind_base base (λ y. put values heap last w y) → ((v : VarId) → Contains ts v → Contains us v) → AreTemporaries g us → OnlyNew [] ts vars now → IsClean g vars
    → Kept ts us o → operand_value now o ≡ w → IsPoint g n plain place (Store z (struct_at last.shape) last.field o (point (goal_of s))) → Undefines g place us s u
    → Walked g base place ts us z a n now heap choices → IsPut g change values place a (goal_of u) vars now heap choices
walked_put g values place change base z last o w ts us s u a n vars now heap choices e grow are new clean keeps holds is undone (walked_faults kind k goes) =
    put_faults kind (e ∙ ap (λ x. behind_base x (λ y. put values heap last w y)) k) goes
walked_put g values place change base z last o w ts us s u a n vars now heap choices e grow are new clean keeps holds is undone (walked later k leads newer) =
    let same : put values heap last w (value_in later z) ≡ put values heap last (operand_value later o) (value_in later z) =
    ap (λ x. put values heap last x (value_in later z)) (sym (kept_value ts us o now later keeps newer ∙ holds)) in
    stored_put g values place change us s u a n vars now later heap choices (put values heap last (operand_value later o) (value_in later z))
    (e ∙ ap (λ x. behind_base x (λ y. put values heap last w y)) k ∙ same) leads are
    (both_new [] ts us vars now later (λ v there. absurd (omega (arith, there.1))) grow new newer) clean undone
    (store_step g values place n (goal_of s) z last o later heap choices is)

-- an operand with this value is put into the field after a variable
pub putting : {g : Graph} {place : Place} {y z : VarId} {f last : FieldAt} {fs : List FieldAt} {o : Operand} {ts us : List VarId} {s m r u : Stage} (values : Values) (base w : Option ℤ) (vars now : Vars) (heap : Heap) (choices : List Choice)
    → Walks g place y (f ∷ fs) ts s z last us m → Appends g plain place (λ q. Store z (struct_at last.shape) last.field o q) m r → Undefines g place us r u
    → AreTemporaries g ts → OnlyNew [] ts vars now → IsClean g vars → length now ≡ length g.owners → Kept ts us o → operand_value now o ≡ w → base ≡ value_in now y
    → IsPut g (assigned_behind values heap base f fs w) values place (goal_of s) (goal_of u) vars now heap choices
putting {g} {place} {y} {z} {f} {last} {fs} {o} {ts} {us} {s} {m} {r} {u} values base w vars now heap choices walk (appends {n = n} {k = k} {b = b} is) undone are new clean long keeps holds e =
    walked_put g values place (assigned_behind values heap base f fs w) (base_value heap (value_in now y) (f ∷ fs)) z last o w ts us (stage b (suc n) k) u (goal_of s) n vars now heap choices
    (ap (λ x. assigned_behind values heap x f fs w) e ∙ assigned_at_last values heap (value_in now y) w walk)
    (walk_grows walk) (walk_temporaries walk are) new clean keeps holds is undone (walking now heap choices walk are long)
