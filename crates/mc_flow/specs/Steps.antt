-- What instructions do, step by step.
use Rattle.std.specs.Prelude.{◌≡◌, ◌==◌, ◌⊎◌, ℕ, zero, suc, List, [], ◌∷◌, ℤ, pos, ◌+ℤ◌, ◌-ℤ◌, ◌*ℤ◌, int_le, Bool, Option, Some, None, is_some, slice_get, length, replicate, if◌then◌else◌}
use Rattle.std.specs.Option.{option_map_or}
use Rattle.std.specs.Ordering.{int_eq}
use Rattle.std.specs.FinMap as map
use Rattle.mc_base.specs.declared.ids.PointId.{PointId}
use Rattle.mc_base.specs.declared.ids.PredId.{PredId}
use Rattle.mc_base.specs.declared.ids.StructId.{StructId}
use Rattle.mc_base.specs.declared.ids.VarId.{VarId}
use Rattle.mc_base.specs.declared.plain.FaultKind.{FaultKind}
use Rattle.mc_base.specs.declared.plain.FaultKind.TheVariants.{Null, Freed, Uninit, BadFree, Assertion, Shape, NotEmpty}
use Rattle.mc_base.specs.declared.plain.Kind.TheVariants.{Int}
use Rattle.mc_base.specs.declared.text.place.Place.{Place}
use Rattle.mc_base.specs.Kinds.{InKind}
use Rattle.mc_flow.specs.Runs.{Outcome, next, last, ended, fault, IsSafeFrom}
use Rattle.mc_flow.specs.Heap.Heap.{Block, Heap, IsAddress, region_of}
use Rattle.mc_flow.specs.Heap.Access.{block_field, field_at, fresh_block, with_field}
use Rattle.mc_flow.specs.Heap.Adding.{AreFree, part_of, with_blocks}
use Rattle.mc_flow.specs.Heap.Choices.{Choice, input, malloc, shape}
use Rattle.mc_flow.specs.Heap.Parts.{IsEmpty}
use Rattle.mc_flow.specs.declared.defs.rules.Def.{Def}
use Rattle.mc_flow.specs.declared.defs.shapes.Structs.{Structs}
use Rattle.mc_flow.specs.Defs.Meaning.{Sat, HoldsSomewhere}
use Rattle.mc_flow.specs.declared.instr.Instr.{Instr}
use Rattle.mc_flow.specs.declared.instr.Instr.TheVariants.{Skip, Copy, Undef, Input, Add, Sub, Mul, Load, Store, Malloc, Free, TestEq, TestLe, AssumeShape, AssertShape, AssertEmpty, End, Fail}
use Rattle.mc_flow.specs.declared.graph.Point.{Point}
use Rattle.mc_flow.specs.declared.graph.Flow.{Flow}
use Rattle.mc_flow.specs.Values.{value_in, value_of, values_of, with_value, without, address, wrapped}

-- where a run is, what each variable holds, and what is allocated
pub record Config : Type 0 where
  pub point : ℕ
  pub vars : List (Option ℤ)
  pub heap : Heap

-- what a step of a flow graph comes to
abbrev pub Result : Type 0
Result = Outcome Config Choice

-- all variables are undefined, and nothing is allocated
abbrev pub start : Flow → Config
start flow = record { point = 0; vars = replicate (length flow.vars) None; heap = map.empty }

-- the same at another point
abbrev pub at_point : PointId → Config → Config
at_point q c = record { point = q.0; vars = c.vars; heap = c.heap }

-- the variable gets the value, and the run goes on
abbrev pub set_to : VarId → PointId → Config → List Choice → ℤ → Result
set_to x q c choices v = next (record { point = q.0; vars = with_value c.vars x (Some v); heap = c.heap }) choices

-- the run goes on with this heap
abbrev pub with_heap : PointId → Config → List Choice → Heap → Result
with_heap q c choices heap = next (record { point = q.0; vars = c.vars; heap = heap }) choices

-- the variable gets the value, which is a fault where it is undefined
abbrev pub copied : VarId → PointId → Place → Config → List Choice → Option ℤ → Result
copied x q place c choices None = last (fault Uninit place)
copied x q place c choices (Some v) = set_to x q c choices v

-- an input is a choice: any `int`
abbrev pub Takes : VarId → PointId → Config → List Choice → Result → Type 0
Takes x q c [] r = ⊥
Takes x q c (input v ∷ choices) r = InKind Int v × (r ≡ set_to x q c choices v)
Takes x q c (malloc n ∷ choices) r = ⊥
Takes x q c (shape v blocks ∷ choices) r = ⊥

-- the variable gets what an operation makes of two values, wrapped; the left one is taken first
abbrev pub computed : (ℤ → ℤ → ℤ) → VarId → PointId → Place → Config → List Choice → Option ℤ → Option ℤ → Result
computed operation x q place c choices None b = last (fault Uninit place)
computed operation x q place c choices (Some a) None = last (fault Uninit place)
computed operation x q place c choices (Some a) (Some b) = set_to x q c choices (wrapped (operation a b))

-- ---- blocks
-- the variable gets what was found in a field: no such field there, an undefined one, or a value
abbrev pub found : VarId → PointId → Place → Config → List Choice → Option (Option ℤ) → Result
found x q place c choices None = last (fault Freed place)
found x q place c choices (Some None) = last (fault Uninit place)
found x q place c choices (Some (Some v)) = set_to x q c choices v

-- a read through a pointer: undefined, null, or an address
abbrev pub loaded : VarId → StructId → ℕ → PointId → Place → Config → List Choice → Option ℤ → Result
loaded x s f q place c choices None = last (fault Uninit place)
loaded x s f q place c choices (Some p) =
    if address p == 0 then last (fault Null place) else found x q place c choices (field_at (region_of c.heap (address p)) s.0 f)

-- the heap with a value in a field of the block at an address, where there is such a field
abbrev pub written : Heap → ℕ → StructId → ℕ → ℤ → Option Block → Option Heap
written heap at s f v None = None
written heap at s f v (Some block) = if is_some (block_field block s.0 f) then Some (map.insert heap at (with_field block f v)) else None

-- the run goes on with the heap that was written, if there was such a field
abbrev pub put : PointId → Place → Config → List Choice → Option Heap → Result
put q place c choices None = last (fault Freed place)
put q place c choices (Some heap) = with_heap q c choices heap

-- a write through a pointer: the value comes first, then the pointer
abbrev pub stored : StructId → ℕ → PointId → Place → Config → List Choice → Option ℤ → Option ℤ → Result
stored s f q place c choices None base = last (fault Uninit place)
stored s f q place c choices (Some v) None = last (fault Uninit place)
stored s f q place c choices (Some v) (Some p) =
    if address p == 0 then last (fault Null place) else put q place c choices
    (written c.heap (address p) s f v (region_of c.heap (address p)))

-- the number of fields of a struct
abbrev pub field_count : Structs → StructId → ℕ
field_count structs s = option_map_or (λ info. length info.fields) (slice_get structs.list s.0) 0

-- malloc's answer is a choice: null, or an address that is not allocated, where a new block is
abbrev pub Allocates : Structs → VarId → StructId → PointId → Config → List Choice → Result → Type 0
Allocates structs x s q c [] r = ⊥
Allocates structs x s q c (malloc zero ∷ choices) r = r ≡ set_to x q c choices (pos 0)
Allocates structs x s q c (malloc (suc n) ∷ choices) r =
    IsAddress (suc n) × (region_of c.heap (suc n) ≡ None)
    × (r ≡ next (record {
      point = q.0;
      vars = with_value c.vars x (Some (pos (suc n)));
      heap = map.insert c.heap
          (suc n) (fresh_block s.0 (field_count structs s));
    }) choices)
Allocates structs x s q c (input v ∷ choices) r = ⊥
Allocates structs x s q c (shape v blocks ∷ choices) r = ⊥

-- a block is freed, and what is not allocated can't be freed
abbrev pub freed_at : PointId → Place → Config → List Choice → ℕ → Option Block → Result
freed_at q place c choices at None = last (fault BadFree place)
freed_at q place c choices at (Some block) = with_heap q c choices (map.remove c.heap at)

-- a value is freed, and null is let alone
abbrev pub freed : PointId → Place → Config → List Choice → Option ℤ → Result
freed q place c choices None = last (fault Uninit place)
freed q place c choices (Some p) =
    if address p == 0 then next (at_point q c) choices else freed_at q place c choices (address p) (region_of c.heap (address p))

-- ---- tests and shapes
-- the run goes on to the first point where the test of the values is true, else to the second
abbrev pub tested : (ℤ → ℤ → Bool) → PointId → PointId → Place → Config → List Choice → Option ℤ → Option ℤ → Result
tested test t f place c choices None b = last (fault Uninit place)
tested test t f place c choices (Some a) None = last (fault Uninit place)
tested test t f place c choices (Some a) (Some b) = if test a b then next (at_point t c) choices else next (at_point f c) choices

-- a value with blocks at free addresses is a choice, where the predicate holds of the value on these blocks
abbrev pub AddsShape : List Def → PredId → List ℤ → VarId → PointId → Config → List Choice → Result → Type 0
AddsShape defs pred args x q c [] r = ⊥
AddsShape defs pred args x q c (shape v blocks ∷ choices) r =
    AreFree c.heap blocks × Sat defs pred v args (part_of blocks)
    × (r ≡ next (record { point = q.0; vars = with_value c.vars x (Some v); heap = with_blocks c.heap blocks }) choices)
AddsShape defs pred args x q c (input v ∷ choices) r = ⊥
AddsShape defs pred args x q c (malloc n ∷ choices) r = ⊥

-- a shape is assumed: the arguments are taken before the choice is asked for
abbrev pub Assumes : List Def → PredId → VarId → PointId → Place → Config → List Choice → Option (List ℤ) → Result → Type 0
Assumes defs pred x q place c choices None r = r ≡ last (fault Uninit place)
Assumes defs pred x q place c choices (Some args) r = AddsShape defs pred args x q c choices r

-- the run goes on where this holds, and has this fault where it does not
abbrev pub Demands : Type 0 → FaultKind → PointId → Place → Config → List Choice → Result → Type 0
Demands P kind q place c choices r = (P × (r ≡ next (at_point q c) choices)) ⊎ ((¬ P) × (r ≡ last (fault kind place)))

-- a shape is asserted: the value is taken, then the arguments, and the predicate is to hold of them on some part of the heap
abbrev pub Asserts : List Def → PredId → PointId → Place → Config → List Choice → Option ℤ → Option (List ℤ) → Result → Type 0
Asserts defs pred q place c choices None args r = r ≡ last (fault Uninit place)
Asserts defs pred q place c choices (Some v) None r = r ≡ last (fault Uninit place)
Asserts defs pred q place c choices (Some v) (Some args) r =
    Demands (HoldsSomewhere defs pred v args (region_of c.heap)) Shape q place c choices r

-- ---- all instructions
-- the step of an instruction at a place
abbrev pub StepOf : Structs → List Def → Place → Instr → Config → List Choice → Result → Type 0
StepOf structs defs place (Skip q) c choices r = r ≡ next (at_point q c) choices
StepOf structs defs place (Copy x o q) c choices r = r ≡ copied x q place c choices (value_of c.vars o)
StepOf structs defs place (Undef xs q) c choices r = r ≡ next (record { point = q.0; vars = without c.vars xs; heap = c.heap }) choices
StepOf structs defs place (Input x q) c choices r = Takes x q c choices r
StepOf structs defs place (Add x o p q) c choices r = r
    ≡ computed (λ a b. a +ℤ b) x q place c choices (value_of c.vars o) (value_of c.vars p)
StepOf structs defs place (Sub x o p q) c choices r = r
    ≡ computed (λ a b. a -ℤ b) x q place c choices (value_of c.vars o) (value_of c.vars p)
StepOf structs defs place (Mul x o p q) c choices r = r
    ≡ computed (λ a b. a *ℤ b) x q place c choices (value_of c.vars o) (value_of c.vars p)
StepOf structs defs place (Load x y s f q) c choices r = r ≡ loaded x s f q place c choices (value_in c.vars y)
StepOf structs defs place (Store y s f o q) c choices r = r ≡ stored s f q place c choices (value_of c.vars o) (value_in c.vars y)
StepOf structs defs place (Malloc x s q) c choices r = Allocates structs x s q c choices r
StepOf structs defs place (Free o q) c choices r = r ≡ freed q place c choices (value_of c.vars o)
StepOf structs defs place (TestEq o p t f) c choices r = r ≡ tested int_eq t f place c choices (value_of c.vars o) (value_of c.vars p)
StepOf structs defs place (TestLe o p t f) c choices r = r ≡ tested int_le t f place c choices (value_of c.vars o) (value_of c.vars p)
StepOf structs defs place (AssumeShape pred x os q) c choices r = Assumes defs pred x q place c choices (values_of c.vars os) r
StepOf structs defs place (AssertShape pred o os q) c choices r = Asserts defs pred q place c choices
    (value_of c.vars o) (values_of c.vars os) r
StepOf structs defs place (AssertEmpty q) c choices r = Demands (IsEmpty (region_of c.heap)) NotEmpty q place c choices r
StepOf structs defs place End c choices r = r ≡ last ended
StepOf structs defs place Fail c choices r = r ≡ last (fault Assertion place)

-- the step of the instruction at a point, if there is one
abbrev pub StepAt : Structs → List Def → Option Point → Config → List Choice → Result → Type 0
StepAt structs defs None c choices r = ⊥
StepAt structs defs (Some p) c choices r = StepOf structs defs p.place p.code c choices r

-- the step of the instruction at the configuration's point
abbrev pub Step : Flow → List Def → Config → List Choice → Result → Type 0
Step flow defs c choices r = StepAt flow.structs defs (slice_get flow.points c.point) c choices r

-- no run of the flow graph, of any length and for any choices, has a fault
abbrev pub IsSafeFlow : Flow → List Def → Type 0
IsSafeFlow flow defs = IsSafeFrom (Step flow defs) (start flow)
