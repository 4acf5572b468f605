-- The values of expressions, and what assignments do.
use Rattle.std.specs.Prelude.{◌≡◌, ◌==◌, ℕ, ℤ, pos, ◌+ℤ◌, ◌-ℤ◌, ◌*ℤ◌, List, [], ◌∷◌, Option, Some, None, if◌then◌else◌, find, position, unwrap_or, slice_get, is_some}
use Rattle.std.specs.Option.{option_map_or}
use Rattle.std.specs.FinMap as map
use Rattle.mc_base.specs.declared.plain.FaultKind.{FaultKind}
use Rattle.mc_base.specs.declared.plain.FaultKind.TheVariants.{Null, Freed, Uninit}
use Rattle.mc_base.specs.declared.plain.Kind.TheVariants.{Int as int_kind}
use Rattle.mc_base.specs.Kinds.{InKind}
use Rattle.mc_flow.specs.Heap.Heap.{Block, Heap, region_of}
use Rattle.mc_flow.specs.Heap.Access.{block_field, field_at, with_field}
use Rattle.mc_flow.specs.Heap.Choices.{Choice, input as choose_input, malloc as choose_malloc, shape as choose_shape}
use Rattle.mc_flow.specs.Values.{address, wrapped}
use Rattle.mc_c_syntax.specs.declared.ast.trees.Name.{Name}
use Rattle.mc_c_syntax.specs.Ast.Trees.{Left, Expr, number, null, input, value, minus, parens, times, plus, difference}
use Rattle.mc_c_syntax.specs.Ast.Names.{is_same}
use Rattle.mc_c_types.specs.declared.types.VariableType.{VariableType}
use Rattle.mc_c_types.specs.declared.types.VariableType.TheVariants.{Int, Pointer, Anything}
use Rattle.mc_c_types.specs.Tables.{Tables, Variable, fields_of}
use Rattle.mc_c_types.specs.Faults.{variable_type, behind_fields}
use Rattle.mc_semantics.specs.Configs.{Values, with_variable}

-- where something is computed: what names mean, which variables are visible and what they hold, and the heap
pub record Here : Type 0 where
  pub tables : Tables
  pub variables : List Variable
  pub values : Values
  pub heap : Heap

-- ---- variables and fields
-- the variable that a name means, and what it holds
abbrev pub variable_of : List Variable → Name → Option Variable
variable_of variables name = find (λ v. is_same v.name name.text) variables

abbrev pub held : Here → Name → Option ℤ
held h name = option_map_or (λ v. h.values v.place) (variable_of h.variables name) None

-- what comes of a value that is looked for: a fault, or a value that may be undefined
pub data Found : Type 0 where
  faulty : FaultKind → Found
  found : Option ℤ → Found

-- the struct that a pointer points to, and the number of a field
abbrev pub struct_behind : VariableType → ℕ
struct_behind Int = 0
struct_behind (Pointer s) = s.0
struct_behind Anything = 0

abbrev pub field_number : Tables → VariableType → Name → ℕ
field_number t type field =
    unwrap_or (position (λ v. is_same v.name field.text) (option_map_or (fields_of t) (slice_get t.structs (struct_behind type)) [])) 0

-- what was read: no such field there, an undefined one, or a value
abbrev pub read : Option (Option ℤ) → Found
read None = faulty Freed
read (Some None) = faulty Uninit
read (Some (Some v)) = found (Some v)

-- a field after a pointer that may be undefined
abbrev pub loaded : Tables → Heap → VariableType → Name → Option ℤ → Found
loaded t heap type field None = faulty Uninit
loaded t heap type field (Some p) =
    if address p == 0 then faulty Null else read (field_at (region_of heap (address p)) (struct_behind type) (field_number t type field))

abbrev pub after_found : Found → (Option ℤ → Found) → Found
after_found (faulty kind) go = faulty kind
after_found (found v) go = go v

-- the fields one after the other, from a value of this type on
abbrev pub behind_value : Tables → Heap → VariableType → Option ℤ → List Name → Found
behind_value t heap type v [] = found v
behind_value t heap type v (field ∷ fields) =
    after_found (loaded t heap type field v) (λ w. behind_value t heap (behind_fields t type (field ∷ [])) w fields)

abbrev pub left_value : Here → Left → Found
left_value h l = behind_value h.tables h.heap (variable_type h.variables l.name) (held h l.name) l.fields

-- ---- expressions
-- what comes of an expression: a fault, or a value with the choices that are left; a variable's value may be undefined until it is used
pub data Evaluated : Type 0 where
  fault_of : FaultKind → Evaluated
  value_of : Option ℤ → List Choice → Evaluated

abbrev pub evaluated : Found → List Choice → Evaluated
evaluated (faulty kind) choices = fault_of kind
evaluated (found v) choices = value_of v choices

-- an operation on two values, of which the left one is taken first
abbrev pub operated : (ℤ → ℤ → ℤ) → Option ℤ → Option ℤ → List Choice → Evaluated
operated operation None b choices = fault_of Uninit
operated operation (Some a) None choices = fault_of Uninit
operated operation (Some a) (Some b) choices = value_of (Some (wrapped (operation a b))) choices

-- an input is a choice: any `int`
abbrev pub IsInput : List Choice → Evaluated → Type 0
IsInput [] r = ⊥
IsInput (choose_input v ∷ choices) r = InKind int_kind v × (r ≡ value_of (Some v) choices)
IsInput (choose_malloc n ∷ choices) r = ⊥
IsInput (choose_shape v blocks ∷ choices) r = ⊥

-- an operation whose left value is known
abbrev pub right_operand : (ℤ → ℤ → ℤ) → Option ℤ → Evaluated → Evaluated
right_operand operation v (fault_of kind) = fault_of kind
right_operand operation v (value_of w choices) = operated operation v w choices

-- an operation after its left value; what the right one comes to is given
abbrev pub AfterLeft : (ℤ → ℤ → ℤ) → (List Choice → Evaluated → Type 0) → Evaluated → Evaluated → Type 0
AfterLeft operation right (fault_of kind) r = r ≡ fault_of kind
AfterLeft operation right (value_of v choices) r = (two : Evaluated) × right choices two × (r ≡ right_operand operation v two)

-- an expression with these choices comes to this
abbrev pub Evaluates : Here → Expr → List Choice → Evaluated → Type 0
Evaluates h (number n p) choices r = r ≡ value_of (Some (pos n)) choices
Evaluates h (null p) choices r = r ≡ value_of (Some (pos 0)) choices
Evaluates h (input p) choices r = IsInput choices r
Evaluates h (value l) choices r = r ≡ evaluated (left_value h l) choices
Evaluates h (minus p e) choices r = (one : Evaluated) × Evaluates h e choices one × (r ≡ right_operand (λ x y. x -ℤ y) (Some (pos 0)) one)
Evaluates h (parens p e) choices r = Evaluates h e choices r
Evaluates h (times a b) choices r = (one : Evaluated) × Evaluates h a choices one
    × AfterLeft (λ x y. x *ℤ y) (λ rest two. Evaluates h b rest two) one r
Evaluates h (plus a b) choices r = (one : Evaluated) × Evaluates h a choices one
    × AfterLeft (λ x y. x +ℤ y) (λ rest two. Evaluates h b rest two) one r
Evaluates h (difference a b) choices r = (one : Evaluated) × Evaluates h a choices one
    × AfterLeft (λ x y. x -ℤ y) (λ rest two. Evaluates h b rest two) one r

-- ---- what is changed
-- what comes of a change: a fault, or what the variables hold and the heap
pub data Changed : Type 0 where
  fault_in : FaultKind → Changed
  changed : Values → Heap → Changed

-- the heap with a value in a field of a block, where there is such a field
abbrev pub written : Here → ℕ → ℕ → ℕ → ℤ → Option Block → Changed
written h at shape field v None = fault_in Freed
written h at shape field v (Some block) =
    if is_some (block_field block shape field) then changed h.values (map.insert h.heap at (with_field block field v)) else fault_in Freed

-- a field after a pointer is written; the value is taken first, then the pointer
abbrev pub put : Here → VariableType → Name → Option ℤ → Option ℤ → Changed
put h type field None v = fault_in Uninit
put h type field (Some v) None = fault_in Uninit
put h type field (Some v) (Some p) =
    if address p == 0 then fault_in Null else written h (address p) (struct_behind type)
    (field_number h.tables type field) v (region_of h.heap (address p))

abbrev pub set_variable : Here → Name → Option ℤ → Changed
set_variable h name None = fault_in Uninit
set_variable h name (Some v) = changed (option_map_or (λ x. with_variable h.values x.place (Some v))
    (variable_of h.variables name) h.values) h.heap

-- what follows a base, where there is one
abbrev pub behind_base : Found → (Option ℤ → Changed) → Changed
behind_base (faulty kind) go = fault_in kind
behind_base (found v) go = go v

-- the last field is written, after what the fields before it lead to
abbrev pub assigned_behind : Here → VariableType → Option ℤ → Name → List Name → Option ℤ → Changed
assigned_behind h type base field [] v = put h type field v base
assigned_behind h type base field (next ∷ fields) v =
    behind_base (loaded h.tables h.heap type field base) (λ w. assigned_behind h (behind_fields h.tables type (field ∷ [])) w next fields v)

-- a variable or field gets a value
abbrev pub assigned : Here → Left → Option ℤ → Changed
assigned h l v = assigned_to l.fields
  where
    assigned_to : List Name → Changed
    assigned_to [] = set_variable h l.name v
    assigned_to (field ∷ fields) = assigned_behind h (variable_type h.variables l.name) (held h l.name) field fields v

-- a variable or field gets what an operation makes of its value and another: the field is read before that value is taken
abbrev pub combined : (ℤ → ℤ → ℤ) → Here → Left → Option ℤ → Changed
combined operation h l v = combine (left_value h l)
  where
    computed : Option ℤ → Option ℤ → Changed
    computed None b = fault_in Uninit
    computed (Some a) None = fault_in Uninit
    computed (Some a) (Some b) = assigned h l (Some (wrapped (operation a b)))

    combine : Found → Changed
    combine (faulty kind) = fault_in kind
    combine (found a) = computed a v
