-- The values of expressions, and what assignments do.
use Rattle.std.specs.Prelude.{◌≡◌, ◌==◌, ℕ, ℤ, pos, ◌+ℤ◌, ◌-ℤ◌, ◌*ℤ◌, List, [], ◌∷◌, Option, Some, None, if◌then◌else◌, is_some}
use Rattle.std.specs.FinMap as map
use Rattle.mc_base.specs.declared.plain.FaultKind.{FaultKind}
use Rattle.mc_base.specs.declared.plain.FaultKind.TheVariants.{Null, Freed, Uninit}
use Rattle.mc_flow.specs.Heap.Heap.{Block, Heap, region_of}
use Rattle.mc_flow.specs.Heap.Access.{block_field, field_at, with_field}
use Rattle.mc_flow.specs.Heap.Choices.{Choice}
use Rattle.mc_flow.specs.Values.{address, wrapped}
use Rattle.mc_semantics.specs.Values.{Found, faulty, found, read, after_found, Evaluated, value_of, evaluated, IsInput, right_operand, AfterLeft}
use Rattle.mc_semantics.specs.Resolved.Programs.{FieldAt, Left, Expr, number, input, value, minus, times, plus, difference}
use Rattle.mc_semantics.specs.Resolved.Configs.{Values, held, with_variable}

-- a field after a pointer that may be undefined
abbrev pub loaded : Heap → FieldAt → Option ℤ → Found
loaded heap f None = faulty Uninit
loaded heap f (Some p) = if address p == 0 then faulty Null else read (field_at (region_of heap (address p)) f.shape f.field)

abbrev pub behind_value : Heap → Option ℤ → List FieldAt → Found
behind_value heap v [] = found v
behind_value heap v (f ∷ fs) = after_found (loaded heap f v) (λ w. behind_value heap w fs)

abbrev pub left_value : Values → Heap → Left → Found
left_value values heap l = behind_value heap (held values l.variable) l.fields

-- an expression with these choices comes to this
abbrev pub Evaluates : Values → Heap → Expr → List Choice → Evaluated → Type 0
Evaluates values heap (number n) choices r = r ≡ value_of (Some (pos n)) choices
Evaluates values heap input choices r = IsInput choices r
Evaluates values heap (value l) choices r = r ≡ evaluated (left_value values heap l) choices
Evaluates values heap (minus e) choices r =
    (one : Evaluated) × Evaluates values heap e choices one × (r ≡ right_operand (λ x y. x -ℤ y) (Some (pos 0)) one)
Evaluates values heap (times a b) choices r =
    (one : Evaluated) × Evaluates values heap a choices one × AfterLeft (λ x y. x *ℤ y) (λ rest two. Evaluates values heap b rest two) one r
Evaluates values heap (plus a b) choices r =
    (one : Evaluated) × Evaluates values heap a choices one × AfterLeft (λ x y. x +ℤ y) (λ rest two. Evaluates values heap b rest two) one r
Evaluates values heap (difference a b) choices r =
    (one : Evaluated) × Evaluates values heap a choices one × AfterLeft (λ x y. x -ℤ y) (λ rest two. Evaluates values heap b rest two) one r

-- ---- what is changed
pub data Changed : Type 0 where
  fault_in : FaultKind → Changed
  changed : Values → Heap → Changed

abbrev pub written : Values → Heap → ℕ → FieldAt → ℤ → Option Block → Changed
written values heap at f v None = fault_in Freed
written values heap at f v (Some block) =
    if is_some (block_field block f.shape f.field) then changed values (map.insert heap at (with_field block f.field v)) else fault_in Freed

-- a field after a pointer is written; the value is taken first, then the pointer
abbrev pub put : Values → Heap → FieldAt → Option ℤ → Option ℤ → Changed
put values heap f None v = fault_in Uninit
put values heap f (Some v) None = fault_in Uninit
put values heap f (Some v) (Some p) =
    if address p == 0 then fault_in Null else written values heap (address p) f v (region_of heap (address p))

abbrev pub set_variable : Values → Heap → ℕ → Option ℤ → Changed
set_variable values heap x None = fault_in Uninit
set_variable values heap x (Some v) = changed (with_variable values x (Some v)) heap

abbrev pub behind_base : Found → (Option ℤ → Changed) → Changed
behind_base (faulty kind) go = fault_in kind
behind_base (found v) go = go v

-- the last field is written, after what the fields before it lead to
abbrev pub assigned_behind : Values → Heap → Option ℤ → FieldAt → List FieldAt → Option ℤ → Changed
assigned_behind values heap base f [] v = put values heap f v base
assigned_behind values heap base f (g ∷ gs) v = behind_base (loaded heap f base) (λ w. assigned_behind values heap w g gs v)

-- a variable or field gets a value
abbrev pub assigned_to : Values → Heap → ℕ → List FieldAt → Option ℤ → Changed
assigned_to values heap x [] v = set_variable values heap x v
assigned_to values heap x (f ∷ fs) v = assigned_behind values heap (held values x) f fs v

abbrev pub assigned : Values → Heap → Left → Option ℤ → Changed
assigned values heap l v = assigned_to values heap l.variable l.fields v

-- a variable or field gets what an operation makes of its value and another: the field is read before that value is taken
abbrev pub computed : (ℤ → ℤ → ℤ) → Values → Heap → Left → Option ℤ → Option ℤ → Changed
computed operation values heap l None b = fault_in Uninit
computed operation values heap l (Some a) None = fault_in Uninit
computed operation values heap l (Some a) (Some b) = assigned values heap l (Some (wrapped (operation a b)))

abbrev pub combined : (ℤ → ℤ → ℤ) → Values → Heap → Left → Option ℤ → Changed
combined operation values heap l v = behind_base (left_value values heap l) (λ a. computed operation values heap l a v)
