-- Which flow graphs are well made.
use Rattle.std.specs.Prelude.{◌≡◌, ◌<◌, ℕ, List, [], ◌∷◌, ◌⊎◌, pos, Option, Some, length, slice_get, Contains, option_and_then, option_map, All}
use Rattle.std.specs.List.{AllZip}
use Rattle.mc_base.specs.declared.ids.PointId.{PointId}
use Rattle.mc_base.specs.declared.ids.PredId.{PredId}
use Rattle.mc_base.specs.declared.ids.StructId.{StructId}
use Rattle.mc_base.specs.declared.ids.VarId.{VarId}
use Rattle.mc_base.specs.declared.plain.Kind.{Kind}
use Rattle.mc_base.specs.declared.plain.Kind.TheVariants.{Int, Ptr}
use Rattle.mc_base.specs.declared.plain.VarInfo.{VarInfo}
use Rattle.mc_base.specs.Kinds.{InKind}
use Rattle.mc_flow.specs.declared.defs.rules.Def.{Def}
use Rattle.mc_flow.specs.declared.defs.shapes.Structs.{Structs}
use Rattle.mc_flow.specs.Defs.Conditions.{DefsFit}
use Rattle.mc_flow.specs.declared.instr.Operand.{Operand}
use Rattle.mc_flow.specs.declared.instr.Operand.TheVariants.{Var, Const}
use Rattle.mc_flow.specs.declared.instr.Instr.{Instr}
use Rattle.mc_flow.specs.declared.instr.Instr.TheVariants.{Skip, Copy, Undef, Input, Add, Sub, Mul, Load, Store, Malloc, Free, TestEq, TestLe, AssumeShape, AssertShape, AssertEmpty, End, Fail}
use Rattle.mc_flow.specs.declared.graph.Point.{Point}
use Rattle.mc_flow.specs.declared.graph.Flow.{Flow}

-- the variable is there, and has this kind
abbrev pub IsVar : List VarInfo → Kind → VarId → Type 0
IsVar vars kind x = option_map (λ v. v.kind) (slice_get vars x.0) ≡ Some kind

-- the operand has a value of this kind: of constants, 0 alone is a pointer
abbrev pub IsOperand : List VarInfo → Kind → Operand → Type 0
IsOperand vars kind (Var x) = IsVar vars kind x
IsOperand vars Int (Const c) = InKind Int c
IsOperand vars Ptr (Const c) = c ≡ pos 0

-- the struct is there
abbrev pub IsStruct : Structs → StructId → Type 0
IsStruct structs s = s.0 < length structs.list

-- the kind of a field, if there is such a struct and such a field
abbrev pub field_kind : Structs → StructId → ℕ → Option Kind
field_kind structs s field = option_and_then (λ info. option_map (λ f. f.kind) (slice_get info.fields field)) (slice_get structs.list s.0)

-- the struct has this field, of this kind
abbrev pub IsField : Structs → StructId → ℕ → Kind → Type 0
IsField structs s field kind = field_kind structs s field ≡ Some kind

-- one operand for each of these kinds, of that kind
abbrev pub ArgsFit : List VarInfo → List Operand → List Kind → Type 0
ArgsFit vars os kinds = AllZip (λ o kind. IsOperand vars kind o) os kinds

-- the predicate is there, and its parameters have the operands as arguments
pub record FitsPredicate (vars : List VarInfo) (defs : List Def) (pred : PredId) (os : List Operand) : Type 0 where
  pub def : Def
  pub defined : slice_get defs pred.0 ≡ Some def
  pub args : ArgsFit vars os def.params

-- the points that may follow an instruction
abbrev pub targets : Instr → List PointId
targets (Skip q) = q ∷ []
targets (Copy x o q) = q ∷ []
targets (Undef xs q) = q ∷ []
targets (Input x q) = q ∷ []
targets (Add x o p q) = q ∷ []
targets (Sub x o p q) = q ∷ []
targets (Mul x o p q) = q ∷ []
targets (Load x y s f q) = q ∷ []
targets (Store y s f o q) = q ∷ []
targets (Malloc x s q) = q ∷ []
targets (Free o q) = q ∷ []
targets (TestEq o p t f) = t ∷ f ∷ []
targets (TestLe o p t f) = t ∷ f ∷ []
targets (AssumeShape p x os q) = q ∷ []
targets (AssertShape p o os q) = q ∷ []
targets (AssertEmpty q) = q ∷ []
targets End = []
targets Fail = []

-- variables, fields, structs and predicates are there and of their kinds
abbrev pub FitsKinds : List VarInfo → Structs → List Def → Instr → Type 0
FitsKinds vars structs defs (Skip q) = Unit {0}
FitsKinds vars structs defs (Copy x o q) = (k : Kind) × IsVar vars k x × IsOperand vars k o
FitsKinds vars structs defs (Undef xs q) = All (λ x. x.0 < length vars) xs
FitsKinds vars structs defs (Input x q) = IsVar vars Int x
FitsKinds vars structs defs (Add x o p q) = IsVar vars Int x × IsOperand vars Int o × IsOperand vars Int p
FitsKinds vars structs defs (Sub x o p q) = IsVar vars Int x × IsOperand vars Int o × IsOperand vars Int p
FitsKinds vars structs defs (Mul x o p q) = IsVar vars Int x × IsOperand vars Int o × IsOperand vars Int p
FitsKinds vars structs defs (Load x y s f q) = (k : Kind) × IsVar vars k x × IsVar vars Ptr y × IsField structs s f k
FitsKinds vars structs defs (Store y s f o q) = (k : Kind) × IsVar vars Ptr y × IsField structs s f k × IsOperand vars k o
FitsKinds vars structs defs (Malloc x s q) = IsVar vars Ptr x × IsStruct structs s
FitsKinds vars structs defs (Free o q) = IsOperand vars Ptr o
FitsKinds vars structs defs (TestEq o p t f) = (k : Kind) × IsOperand vars k o × IsOperand vars k p
FitsKinds vars structs defs (TestLe o p t f) = IsOperand vars Int o × IsOperand vars Int p
FitsKinds vars structs defs (AssumeShape pred x os q) = IsVar vars Ptr x × FitsPredicate vars defs pred os
FitsKinds vars structs defs (AssertShape pred o os q) = IsOperand vars Ptr o × FitsPredicate vars defs pred os
FitsKinds vars structs defs (AssertEmpty q) = Unit {0}
FitsKinds vars structs defs End = Unit {0}
FitsKinds vars structs defs Fail = Unit {0}

-- the point is there, and is a Skip
pub record IsSkip (points : List Point) (p : PointId) : Type 0 where
  pub next : PointId
  pub skips : option_map (λ point. point.code) (slice_get points p.0) ≡ Some (Skip next)

-- a point may go on to this one: it is there, and lies after it or is a loop head
abbrev pub GoesOn : Flow → ℕ → PointId → Type 0
GoesOn flow p q = (q.0 < length flow.points) × ((p < q.0) ⊎ Contains flow.heads q)

-- the point at this number goes on to points, and names what is there and of its kind
pub record PointFits (flow : Flow) (defs : List Def) (p : ℕ) (point : Point) : Type 0 where
  pub follows : All (GoesOn flow p) (targets point.code)
  pub kinds : FitsKinds flow.vars flow.structs defs point.code

-- each point of the flow graph fits where it stands
abbrev pub PointsFit : Flow → List Def → Type 0
PointsFit flow defs = (p : ℕ) (point : Point) → slice_get flow.points p ≡ Some point → PointFits flow defs p point

-- a flow graph with its definitions is valid
pub record IsValid (flow : Flow) (defs : List Def) : Type 0 where
  pub begins : 0 < length flow.points
  pub points : PointsFit flow defs
  pub heads : All (IsSkip flow.points) flow.heads
  pub merges : All (IsSkip flow.points) flow.merges
  pub thresholds : All (InKind Int) flow.thresholds
  pub definitions : DefsFit flow.structs.list defs
