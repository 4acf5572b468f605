-- Steps at points of a lowered flow graph, and what instructions that set a variable do.
use Rattle.std.proofs.Common.{T, ◌<◌, ◌≡◌, ◌⊎◌, inl, inr, ℕ, zero, suc, ℤ, pos, ◌+ℤ◌, ◌-ℤ◌, ◌*ℤ◌, Bool, true, false, List, [], ◌∷◌, Option, Some, None, refl, sym, ap, ◌∙◌, subst}
use Rattle.std.specs.Prelude.{◌≤ℤ◌, ◌==◌, if◌then◌else◌, negsuc}
use Rattle.std.specs.Int.Signed.{le_z, le_z_yes}
use Rattle.mc_base.specs.declared.ids.VarId.{VarId}
use Rattle.mc_base.specs.declared.plain.FaultKind.{FaultKind}
use Rattle.mc_base.specs.declared.plain.FaultKind.TheVariants.{Uninit, Null, Freed}
use Rattle.mc_base.specs.declared.plain.Kind.TheVariants.{Int}
use Rattle.mc_base.specs.Kinds.{InKind}
use Rattle.mc_flow.specs.Runs.{Final, next, last, fault, Reaches}
use Rattle.mc_base.specs.declared.text.place.Place.{Place}
use Rattle.mc_flow.specs.Heap.Heap.{Heap, region_of}
use Rattle.mc_flow.specs.Heap.Access.{field_at}
use Rattle.mc_flow.specs.Heap.Choices.{Choice, input, malloc, shape}
use Rattle.mc_flow.specs.Values.{value_in, value_of as operand_value, with_value, address, wrapped}
use Rattle.mc_flow.specs.declared.instr.Instr.{Instr}
use Rattle.mc_flow.specs.Steps.{Config, Result, StepAt, StepOf}
use Rattle.mc_flow.specs.Steps as flow
use Rattle.mc_semantics.specs.Values.{Evaluated, fault_of, value_of, IsInput, operated, evaluated, read}
use Rattle.mc_semantics.specs.Resolved.Values.{loaded}
use Rattle.mc_semantics.specs.Resolved.Programs.{FieldAt}
use Rattle.mc_lower_spec.specs.Graphs.{Graph, plain, point, IsPoint}
use Rattle.mc_lower_spec.specs.Values.{struct_at, Operation, an_input, a_field, a_sum, a_difference, a_product, sets}
use Rattle.mc_lower_spec.specs.Runs.{FlowStep, told}
use Rattle.mc_lower_spec.proofs.Simulating.{left_of_one}
use Rattle.mc_lower_spec.proofs.FlowOnce.{flow_once}

abbrev pub Vars : Type 0
Vars = List (Option ℤ)

-- the flow graph's run at a point
abbrev pub at : ℕ → Vars → Heap → Config
at n vars heap = record { point = n; vars = vars; heap = heap }

pub step_at : (g : Graph) (n : ℕ) (place : Place) (code : Instr) (vars : Vars) (heap : Heap) (choices : List Choice) (r : Result) → IsPoint g n plain place code
    → StepOf g.flow.structs g.program.defs place code (at n vars heap) choices r → FlowStep g (at n vars heap) choices r
step_at g n place code vars heap choices r is step = (
  r,
  subst (λ o. StepAt g.flow.structs g.program.defs o (at n vars heap) choices r) (sym is.there) step,
  sym (ap (λ o. told o r) is.is),
)

pub step_from : (g : Graph) (n : ℕ) (place : Place) (code : Instr) (vars : Vars) (heap : Heap) (choices : List Choice) (r : Result) → IsPoint g n plain place code
    → FlowStep g (at n vars heap) choices r → StepOf g.flow.structs g.program.defs place code (at n vars heap) choices r
step_from g n place code vars heap choices r is (s, step, e) =
    let same : r ≡ s = e ∙ ap (λ o. told o s) is.is in
    subst (λ z. StepOf g.flow.structs g.program.defs place code (at n vars heap) choices z) (sym same)
    (subst (λ o. StepAt g.flow.structs g.program.defs o (at n vars heap) choices s) is.there step)

-- the run goes no further
abbrev pub Never : Graph → Config → List Choice → Type 0
Never g c choices = (k : ℕ) (f : Final) → Reaches (FlowStep g) k c choices f → ⊥

pub never_from : (g : Graph) (c : Config) (choices : List Choice) → ((r : Result) → FlowStep g c choices r → ⊥) → Never g c choices
never_from g c choices none zero f run = run
never_from g c choices none (suc k) f (inl s) = none (last f) s
never_from g c choices none (suc k) f (inr h) = none (next h.0 h.1) h.2

pub never_behind : (g : Graph) (c d : Config) (choices left : List Choice) → FlowStep g c choices (next d left) → Never g d left → Never g c choices
never_behind g c d choices left step never k f run =
    let rest : (m : ℕ) × (m < k) × Reaches (FlowStep g) m d left f = left_of_one (FlowStep g) (flow_once g) c choices (next d left) k f step run in
    never rest.0 f rest.2

-- ---- what an operation comes to
abbrev pub Comes : Operation → Vars → Heap → List Choice → Evaluated → Type 0
Comes an_input vars heap choices r = IsInput choices r
Comes (a_field y f) vars heap choices r = r ≡ evaluated (loaded heap f (value_in vars y)) choices
Comes (a_sum a b) vars heap choices r = r ≡ operated (λ x y. x +ℤ y) (operand_value vars a) (operand_value vars b) choices
Comes (a_difference a b) vars heap choices r = r ≡ operated (λ x y. x -ℤ y) (operand_value vars a) (operand_value vars b) choices
Comes (a_product a b) vars heap choices r = r ≡ operated (λ x y. x *ℤ y) (operand_value vars a) (operand_value vars b) choices

-- the instruction at a point, and what its operation comes to: it waits, it has a fault, or it sets the variable
pub data Operates (g : Graph) (n : ℕ) (place : Place) (operation : Operation) (x : VarId) (q : ℕ) (vars : Vars) (heap : Heap) (choices : List Choice) : Type 0 where
  op_waits : ((r : Evaluated) → Comes operation vars heap choices r → ⊥) → Never g (at n vars heap) choices → Operates g n place operation x q vars heap choices
  op_faults : (kind : FaultKind) → Comes operation vars heap choices (fault_of kind) → FlowStep g (at n vars heap) choices (last (fault kind place))
      → Operates g n place operation x q vars heap choices
  op_gives : (w : ℤ) (left : List Choice) → Comes operation vars heap choices (value_of (Some w) left)
      → FlowStep g (at n vars heap) choices (next (at q (with_value vars x (Some w)) heap) left) → Operates g n place operation x q vars heap choices

decided_by : (A : Type 0) (t : Bool) → (T t → A) → (A → T t) → A ⊎ (¬ A)
decided_by A true into out = inl (into tt)
decided_by A false into out = inr (λ a. out a)

decide_le : (a b : ℤ) → (a ≤ℤ b) ⊎ (¬ (a ≤ℤ b))
decide_le a b = decided_by (a ≤ℤ b) (le_z a b) (λ t. le_z_yes t) (λ le. le.le)

pub decide_int : (v : ℤ) → InKind Int v ⊎ (¬ InKind Int v)
decide_int v = elim (decide_le (negsuc 2147483647) v) [
  | inl low ↦ elim (decide_le v (pos 2147483647)) [
    | inl high ↦ inl (low, high)
    | inr not_high ↦ inr (λ h. not_high h.1)
  ]
  | inr not_low ↦ inr (λ h. not_low h.0)
]

nothing_taken : (g : Graph) (n : ℕ) (place : Place) (x : VarId) (q : ℕ) (vars : Vars) (heap : Heap) (choices : List Choice) → IsPoint g n plain place (sets an_input x (point q))
    → ((r : Evaluated) → IsInput choices r → ⊥) → ((r : Result) → flow.Takes x (point q) (at n vars heap) choices r → ⊥) → Operates g n place an_input x q vars heap choices
nothing_taken g n place x q vars heap choices is none nothing =
    op_waits none (never_from g (at n vars heap) choices (λ r s. nothing r (step_from g n place (sets an_input x (point q)) vars heap choices r is s)))

input_operates : (g : Graph) (n : ℕ) (place : Place) (x : VarId) (q : ℕ) (vars : Vars) (heap : Heap) (choices : List Choice) → IsPoint g n plain place (sets an_input x (point q))
    → Operates g n place an_input x q vars heap choices
input_operates g n place x q vars heap [] is = nothing_taken g n place x q vars heap [] is (λ r i. i) (λ r i. i)
input_operates g n place x q vars heap (malloc m ∷ choices) is = nothing_taken g n place x q vars heap (malloc m ∷ choices) is (λ r i. i) (λ r i. i)
input_operates g n place x q vars heap (shape v blocks ∷ choices) is = nothing_taken g n place x q vars heap (shape v blocks ∷ choices) is (λ r i. i) (λ r i. i)
input_operates g n place x q vars heap (input v ∷ choices) is = elim (decide_int v) [
  | inl yes_int ↦ op_gives v choices (yes_int, refl) (step_at g n place (sets an_input x (point q)) vars heap (input v ∷ choices) (next (at q (with_value vars x (Some v)) heap) choices) is (yes_int, refl))
  | inr no_int ↦ nothing_taken g n place x q vars heap (input v ∷ choices) is (λ r i. no_int i.0) (λ r i. no_int i.0)
]

-- two operands
pair_operates : (g : Graph) (n : ℕ) (place : Place) (operation : Operation) (compute : ℤ → ℤ → ℤ) (x : VarId) (q : ℕ) (vars : Vars) (heap : Heap) (choices : List Choice) (a b : Option ℤ)
    → ((r : Evaluated) → r ≡ operated compute a b choices → Comes operation vars heap choices r)
    → ((r : Result) → r ≡ flow.computed compute x (point q) place (at n vars heap) choices a b → FlowStep g (at n vars heap) choices r)
    → Operates g n place operation x q vars heap choices
pair_operates g n place operation compute x q vars heap choices None b source step = op_faults Uninit (source _ refl) (step _ refl)
pair_operates g n place operation compute x q vars heap choices (Some u) None source step = op_faults Uninit (source _ refl) (step _ refl)
pair_operates g n place operation compute x q vars heap choices (Some u) (Some w) source step = op_gives (wrapped (compute u w)) choices (source _ refl) (step _ refl)

-- a field
found_operates : (g : Graph) (n : ℕ) (place : Place) (y : VarId) (f : FieldAt) (x : VarId) (q : ℕ) (vars : Vars) (heap : Heap) (choices : List Choice) (there : Option (Option ℤ))
    → ((r : Evaluated) → r ≡ evaluated (read there) choices → Comes (a_field y f) vars heap choices r)
    → ((r : Result) → r ≡ flow.found x (point q) place (at n vars heap) choices there → FlowStep g (at n vars heap) choices r)
    → Operates g n place (a_field y f) x q vars heap choices
found_operates g n place y f x q vars heap choices None source step = op_faults Freed (source _ refl) (step _ refl)
found_operates g n place y f x q vars heap choices (Some None) source step = op_faults Uninit (source _ refl) (step _ refl)
found_operates g n place y f x q vars heap choices (Some (Some w)) source step = op_gives w choices (source _ refl) (step _ refl)

address_operates : (g : Graph) (n : ℕ) (place : Place) (y : VarId) (f : FieldAt) (x : VarId) (q : ℕ) (vars : Vars) (heap : Heap) (choices : List Choice) (p : ℤ) (null : Bool)
    → ((r : Evaluated) → r ≡ evaluated (if null then Rattle.mc_semantics.specs.Values.faulty Null else read (field_at (region_of heap (address p)) f.shape f.field)) choices
    → Comes (a_field y f) vars heap choices r)
    → ((r : Result) → r ≡ (if null then last (fault Null place) else flow.found x (point q) place (at n vars heap) choices (field_at (region_of heap (address p)) f.shape f.field))
    → FlowStep g (at n vars heap) choices r)
    → Operates g n place (a_field y f) x q vars heap choices
address_operates g n place y f x q vars heap choices p true source step = op_faults Null (source _ refl) (step _ refl)
address_operates g n place y f x q vars heap choices p false source step =
    found_operates g n place y f x q vars heap choices (field_at (region_of heap (address p)) f.shape f.field) source step

field_operates : (g : Graph) (n : ℕ) (place : Place) (y : VarId) (f : FieldAt) (x : VarId) (q : ℕ) (vars : Vars) (heap : Heap) (choices : List Choice) (base : Option ℤ)
    → ((r : Evaluated) → r ≡ evaluated (loaded heap f base) choices → Comes (a_field y f) vars heap choices r)
    → ((r : Result) → r ≡ flow.loaded x (struct_at f.shape) f.field (point q) place (at n vars heap) choices base → FlowStep g (at n vars heap) choices r)
    → Operates g n place (a_field y f) x q vars heap choices
field_operates g n place y f x q vars heap choices None source step = op_faults Uninit (source _ refl) (step _ refl)
field_operates g n place y f x q vars heap choices (Some p) source step = address_operates g n place y f x q vars heap choices p (address p == 0) source step

pub operates : (g : Graph) (n : ℕ) (place : Place) (operation : Operation) (x : VarId) (q : ℕ) (vars : Vars) (heap : Heap) (choices : List Choice)
    → IsPoint g n plain place (sets operation x (point q)) → Operates g n place operation x q vars heap choices
operates g n place an_input x q vars heap choices is = input_operates g n place x q vars heap choices is
operates g n place (a_field y f) x q vars heap choices is =
    field_operates g n place y f x q vars heap choices (value_in vars y) (λ r e. e) (λ r e. step_at g n place (sets (a_field y f) x (point q)) vars heap choices r is e)
operates g n place (a_sum a b) x q vars heap choices is =
    pair_operates g n place (a_sum a b) (λ u w. u +ℤ w) x q vars heap choices (operand_value vars a) (operand_value vars b) (λ r e. e)
    (λ r e. step_at g n place (sets (a_sum a b) x (point q)) vars heap choices r is e)
operates g n place (a_difference a b) x q vars heap choices is =
    pair_operates g n place (a_difference a b) (λ u w. u -ℤ w) x q vars heap choices (operand_value vars a) (operand_value vars b) (λ r e. e)
    (λ r e. step_at g n place (sets (a_difference a b) x (point q)) vars heap choices r is e)
operates g n place (a_product a b) x q vars heap choices is =
    pair_operates g n place (a_product a b) (λ u w. u *ℤ w) x q vars heap choices (operand_value vars a) (operand_value vars b) (λ r e. e)
    (λ r e. step_at g n place (sets (a_product a b) x (point q)) vars heap choices r is e)
