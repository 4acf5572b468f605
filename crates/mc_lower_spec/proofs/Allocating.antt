-- New memory is put into a variable or a field.
use Rattle.std.proofs.Common.{◌<◌, ◌≡◌, ◌⊎◌, inl, inr, ℕ, zero, suc, ℤ, pos, List, [], ◌∷◌, Option, Some, None, length, refl, sym, ap, ◌∙◌, subst, arith}
use Rattle.std.specs.Prelude.{slice_get, ◌^◌}
use Rattle.std.specs.FinMap as map
use Rattle.std.proofs.lemmas.Option.{slice_get_within}
use Rattle.std.proofs.Math.Decide.{dec_lt}
use Rattle.mc_base.specs.declared.ids.VarId.{VarId}
use Rattle.mc_base.specs.declared.plain.Kind.TheVariants.{Ptr}
use Rattle.mc_flow.specs.Runs.{next}
use Rattle.mc_base.specs.declared.text.place.Place.{Place}
use Rattle.mc_flow.specs.Heap.Heap.{Block, Heap, IsAddress, region_of}
use Rattle.mc_flow.specs.Heap.Access.{fresh_block}
use Rattle.mc_flow.specs.Heap.Choices.{Choice, input as choose_input, malloc as choose_malloc, shape as choose_shape}
use Rattle.mc_flow.specs.Values.{with_value}
use Rattle.mc_flow.specs.declared.instr.Instr.TheVariants.{Malloc}
use Rattle.mc_flow.specs.Steps as flow
use Rattle.mc_flow.specs.Steps.{field_count}
use Rattle.mc_semantics.specs.Resolved.Configs.{with_variable, held, Tasks, Result}
use Rattle.mc_semantics.specs.Resolved.Programs.{Left, allocation, Program}
use Rattle.mc_semantics.specs.Resolved.Steps.{Here, after, Allocates, Assigns}
use Rattle.mc_semantics.specs.Resolved.Values.{assigned}
use Rattle.mc_lower_spec.specs.Graphs.{Graph, local, temporary, Stage, stage, plain, point, IsPoint, appends, IsMade, is_made}
use Rattle.mc_lower_spec.specs.Values.{struct_at, puts_field}
use Rattle.mc_lower_spec.specs.Lowering.{sets_allocated, Assigns as LowersTo, assigns_variable, assigns_allocated}
use Rattle.mc_lower_spec.specs.Runs.{FlowStep}
use Rattle.mc_lower_spec.proofs.Simulating.{one, more}
use Rattle.mc_lower_spec.proofs.Stepping.{Vars, at, Never, never_from, step_at, step_from}
use Rattle.mc_lower_spec.proofs.Stages.{goal_of}
use Rattle.mc_lower_spec.proofs.Evaluating.{AreTemporaries, no_temporaries, one_more, OnlyNew, new_set, set_here, Agree, agree_later, used_owner, uses_goal}
use Rattle.mc_lower_spec.proofs.Changing.{IsClean}
use Rattle.mc_lower_spec.proofs.Storing.{IsPut, put_faults, put_gives, putting}
use Rattle.mc_lower_spec.proofs.Performing.{Settable, IsPerformed, performed_waits, performed_faults, performed, nothing_set, one_set}

abbrev pub Go : Type 1
Go = ℤ → Heap → List Choice → Result → Type 0

-- both wait, or both go on with a pointer in a heap
pub data IsAllocated (g : Graph) (go : Go) (shape fields : ℕ) (t : VarId) (n q : ℕ) (vars : Vars) (heap : Heap) (choices : List Choice) : Type 0 where
  allocated_waits : ((r : Result) → Allocates heap shape fields choices go r → ⊥) → Never g (at n vars heap) choices → IsAllocated g go shape fields t n q vars heap choices
  allocated : (v : ℤ) (later : Heap) (left : List Choice) → ((r : Result) → go v later left r → Allocates heap shape fields choices go r)
      → FlowStep g (at n vars heap) choices (next (at q (with_value vars t (Some v)) later) left) → IsAllocated g go shape fields t n q vars heap choices

decide_address : (n : ℕ) → IsAddress n ⊎ (¬ IsAddress n)
decide_address n = elim (dec_lt 0 n) [
  | yes low ↦ elim (dec_lt n (2 ^ 62)) [
    | yes high ↦ inl (omega (arith, low), high)
    | no not_high ↦ inr (λ is. not_high is.1)
  ]
  | no not_low ↦ inr (λ is. not_low (omega (arith, is.0)))
]

decide_none : (block : Option Block) → (block ≡ None) ⊎ (¬ (block ≡ None))
decide_none None = inl refl
decide_none (Some block) = inr (λ e. cc)

nothing_allocated : (g : Graph) (go : Go) (shape fields : ℕ) (t : VarId) (n q : ℕ) (place : Place) (vars : Vars) (heap : Heap) (choices : List Choice) → IsPoint g n plain place (Malloc t (struct_at shape) (point q))
    → ((r : Result) → Allocates heap shape fields choices go r → ⊥) → ((r : flow.Result) → flow.Allocates g.flow.structs t (struct_at shape) (point q) (at n vars heap) choices r → ⊥)
    → IsAllocated g go shape fields t n q vars heap choices
nothing_allocated g go shape fields t n q place vars heap choices is none nothing =
    allocated_waits none (never_from g (at n vars heap) choices (λ r s. nothing r (step_from g n place (Malloc t (struct_at shape) (point q)) vars heap choices r is s)))

pub allocates : (g : Graph) (go : Go) (shape fields : ℕ) (t : VarId) (n q : ℕ) (place : Place) (vars : Vars) (heap : Heap) (choices : List Choice)
    → field_count g.flow.structs (struct_at shape) ≡ fields → IsPoint g n plain place (Malloc t (struct_at shape) (point q)) → IsAllocated g go shape fields t n q vars heap choices
allocates g go shape fields t n q place vars heap [] e is = nothing_allocated g go shape fields t n q place vars heap [] is (λ r i. i) (λ r i. i)
allocates g go shape fields t n q place vars heap (choose_input v ∷ choices) e is = nothing_allocated g go shape fields t n q place vars heap (choose_input v ∷ choices) is (λ r i. i) (λ r i. i)
allocates g go shape fields t n q place vars heap (choose_shape v blocks ∷ choices) e is = nothing_allocated g go shape fields t n q place vars heap (choose_shape v blocks ∷ choices) is (λ r i. i) (λ r i. i)
allocates g go shape fields t n q place vars heap (choose_malloc zero ∷ choices) e is =
    allocated (pos 0) heap choices (λ r i. i)
    (step_at g n place (Malloc t (struct_at shape) (point q)) vars heap (choose_malloc zero ∷ choices) (next (at q (with_value vars t (Some (pos 0))) heap) choices) is refl)
allocates g go shape fields t n q place vars heap (choose_malloc (suc m) ∷ choices) e is = elim (decide_address (suc m)) [
  | inl there ↦ elim (decide_none (region_of heap (suc m))) [
    | inl empty ↦ allocated (pos (suc m)) (map.insert heap (suc m) (fresh_block shape fields)) choices (λ r i. (there, empty, i))
        (step_at g n place (Malloc t (struct_at shape) (point q)) vars heap (choose_malloc (suc m) ∷ choices) (next (at q (with_value vars t (Some (pos (suc m)))) (map.insert heap (suc m) (fresh_block shape fields))) choices) is
        (there, empty, ap (λ count. next (at q (with_value vars t (Some (pos (suc m)))) (map.insert heap (suc m) (fresh_block shape count))) choices) (sym e)))
    | inr full ↦ nothing_allocated g go shape fields t n q place vars heap (choose_malloc (suc m) ∷ choices) is (λ r i. full i.1) (λ r i. full i.1)
  ]
  | inr nowhere ↦ nothing_allocated g go shape fields t n q place vars heap (choose_malloc (suc m) ∷ choices) is (λ r i. nowhere i.0) (λ r i. nowhere i.0)
]

-- ---- into a variable
variable_allocated : (g : Graph) (p : Program) (h : Here) (x shape fields : ℕ) (v : VarId) (rest : Tasks) (May : Settable) (place : Place) (n b : ℕ) (vars : Vars) (choices : List Choice) → May x v
    → IsAllocated g (λ w heap left other. other ≡ after rest place left (assigned h.values heap (record { variable = x; fields = [] }) (Some w))) shape fields v n b vars h.heap choices
    → IsPerformed g (λ r. Assigns p h (record { variable = x; fields = [] }) (allocation shape fields) place rest choices r) rest May place n b h.values vars h.heap choices
variable_allocated g p h x shape fields v rest May place n b vars choices may (allocated_waits none never) = performed_waits none never
variable_allocated g p h x shape fields v rest May place n b vars choices may (allocated w later left into step) =
    performed (with_variable h.values x (Some w)) (with_value vars v (Some w)) later left (into _ refl) (one step) (one_set x v (Some w) may)

-- ---- into a field
put_allocated : (g : Graph) (p : Program) (h : Here) (l : Left) (shape fields : ℕ) (rest : Tasks) (May : Settable) (place : Place) (n m b : ℕ) (vars now : Vars) (later : Heap) (choices left : List Choice) (w : ℤ)
    → ((r : Result) → r ≡ after rest place left (assigned h.values later l (Some w)) → Assigns p h l (allocation shape fields) place rest choices r)
    → FlowStep g (at n vars h.heap) choices (next (at m now later) left) → IsPut g (assigned h.values later l (Some w)) h.values place m b vars now later left
    → IsPerformed g (λ r. Assigns p h l (allocation shape fields) place rest choices r) rest May place n b h.values vars h.heap choices
put_allocated g p h l shape fields rest May place n m b vars now later choices left w into step (put_faults kind change goes) =
    performed_faults kind (into _ (sym (ap (after rest place left) change))) (more step goes)
put_allocated g p h l shape fields rest May place n m b vars now later choices left w into step (put_gives final change goes) =
    performed h.values vars final left (into _ (sym (ap (after rest place left) change))) (more step goes) nothing_set

field_allocated : (g : Graph) (p : Program) (h : Here) (l : Left) (shape fields : ℕ) (t : VarId) (rest : Tasks) (May : Settable) (place : Place) (n m b : ℕ) (vars : Vars) (choices : List Choice)
    → ((later : Heap) (left : List Choice) (w : ℤ) → IsPut g (assigned h.values later l (Some w)) h.values place m b vars (with_value vars t (Some w)) later left)
    → IsAllocated g (λ w heap left other. other ≡ after rest place left (assigned h.values heap l (Some w))) shape fields t n m vars h.heap choices
    → ((r : Result) → Assigns p h l (allocation shape fields) place rest choices r → Allocates h.heap shape fields choices (λ w heap left other. other ≡ after rest place left (assigned h.values heap l (Some w))) r)
    → ((r : Result) → Allocates h.heap shape fields choices (λ w heap left other. other ≡ after rest place left (assigned h.values heap l (Some w))) r → Assigns p h l (allocation shape fields) place rest choices r)
    → IsPerformed g (λ r. Assigns p h l (allocation shape fields) place rest choices r) rest May place n b h.values vars h.heap choices
field_allocated g p h l shape fields t rest May place n m b vars choices puts (allocated_waits none never) out_of into = performed_waits (λ r q. none r (out_of r q)) never
field_allocated g p h l shape fields t rest May place n m b vars choices puts (allocated w later left go step) out_of into =
    put_allocated g p h l shape fields rest May place n m b vars (with_value vars t (Some w)) later choices left w (λ r q. into r (go r q)) step (puts later left w)

-- `malloc` as an assigned value
pub allocating : {g : Graph} {out : ℕ} {place : Place} {l : Left} {shape fields : ℕ} {s u : Stage} (p : Program) (h : Here) (rest : Tasks) (May : Settable) (vars : Vars) (choices : List Choice)
    → LowersTo g out place l (allocation shape fields) s u → ((v : VarId) → IsMade g (local out l.variable) v s → May l.variable v) → IsClean g vars → length vars ≡ length g.owners → Agree g out h.values vars
    → IsPerformed g (λ r. Assigns p h l (allocation shape fields) place rest choices r) rest May place (goal_of s) (goal_of u) h.values vars h.heap choices
allocating {g} {out} {place} {shape = shape} {fields = fields} p h rest May vars choices (assigns_variable {x = x} {v = v} (is_made owned earlier) (sets_allocated count (appends {n = n} {b = b} is))) may clean long agree =
    variable_allocated g p h x shape fields v rest May place n b vars choices (may v (is_made owned earlier))
    (allocates g (λ w heap left other. other ≡ after rest place left (assigned h.values heap (record { variable = x; fields = [] }) (Some w))) shape fields v n b place vars h.heap choices count is)
allocating {g} {out} {place} {shape = shape} {fields = fields} {s = s} {u = u} p h rest May vars choices (assigns_allocated {x = x} {f = f} {fs = fs} {t = t} count uses (appends {n = n} {k = k} {b = b} is) (puts_field {y = y} {us = us} (is_made owned earlier) walk stores undone)) may clean long agree =
    let at_t : slice_get g.owners t.0 ≡ Some (temporary 0 Ptr) = used_owner g 0 Ptr s (stage n n k) t uses in
    let are : AreTemporaries g (t ∷ []) = one_more g [] t Ptr (no_temporaries g) at_t in
    let within : t.0 < length g.owners = slice_get_within g.owners t.0 (temporary 0 Ptr) at_t in
    subst (λ a. IsPerformed g (λ r. Assigns p h (record { variable = x; fields = f ∷ fs }) (allocation shape fields) place rest choices r) rest May place a (goal_of u) h.values vars h.heap choices) (sym (uses_goal uses))
    (field_allocated g p h (record { variable = x; fields = f ∷ fs }) shape fields t rest May place n b (goal_of u) vars choices
    (λ later left w.
    let new : OnlyNew [] (t ∷ []) vars (with_value vars t (Some w)) = new_set g [] t Ptr vars (Some w) (no_temporaries g) at_t in
    putting h.values (held h.values x) (Some w) vars (with_value vars t (Some w)) later left walk stores undone are new clean (new.long ∙ long)
    (λ there. (0, omega arith, refl)) (set_here vars t (Some w) (omega (arith, within, long))) ((agree_later g out h.values [] (t ∷ []) vars (with_value vars t (Some w)) are new agree).same x y.0 owned))
    (allocates g (λ w heap left other. other ≡ after rest place left (assigned h.values heap (record { variable = x; fields = f ∷ fs }) (Some w))) shape fields t n b place vars h.heap choices count is)
    (λ r q. q) (λ r q. q))
