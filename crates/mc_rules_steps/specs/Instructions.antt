-- The parts of an instruction, if it is one of a form.
use Rattle.std.specs.Prelude.{ℕ, List, Bool, true, false, Option, Some, None}
use Rattle.mc_base.specs.declared.ids.PointId.{PointId}
use Rattle.mc_base.specs.declared.ids.PredId.{PredId}
use Rattle.mc_base.specs.declared.ids.StructId.{StructId}
use Rattle.mc_base.specs.declared.ids.VarId.{VarId}
use Rattle.mc_flow.specs.declared.instr.Operand.{Operand}
use Rattle.mc_flow.specs.declared.instr.Instr.{Instr}
use Rattle.mc_flow.specs.declared.instr.Instr.TheVariants.{Skip, Copy, Undef, Input, Add, Sub, Mul, Load, Store, Malloc, Free, TestEq, TestLe, AssumeShape, AssertShape, AssertEmpty, End}

-- a variable gets what comes of an operand
pub record CopyParts : Type 0 where
  pub x : VarId
  pub from : Operand
  pub q : PointId

-- a variable gets what comes of two operands
pub record ResultParts : Type 0 where
  pub x : VarId
  pub o : Operand
  pub o' : Operand
  pub q : PointId

-- a variable gets a field of a block of a struct at a base
pub record LoadParts : Type 0 where
  pub x : VarId
  pub y : VarId
  pub shape : StructId
  pub f : ℕ
  pub q : PointId

-- a field of a block of a struct at a base gets an operand
pub record StoreParts : Type 0 where
  pub y : VarId
  pub shape : StructId
  pub f : ℕ
  pub from : Operand
  pub q : PointId

-- a variable gets a new block of a struct
pub record MallocParts : Type 0 where
  pub x : VarId
  pub shape : StructId
  pub q : PointId

-- two operands are compared, and there are two ways to go on
pub record TestParts : Type 0 where
  pub o : Operand
  pub o' : Operand
  pub t : PointId
  pub f : PointId

-- a predicate is assumed at a variable
pub record AssumeParts : Type 0 where
  pub pred : PredId
  pub x : VarId
  pub os : List Operand
  pub q : PointId

-- a predicate is asserted at an operand
pub record AssertParts : Type 0 where
  pub pred : PredId
  pub o : Operand
  pub os : List Operand
  pub q : PointId

-- a Skip
abbrev pub skip_of : Option Instr → Option PointId
skip_of (Some (Skip q)) = Some q
skip_of other = None

-- a Copy
abbrev pub copy_of : Option Instr → Option CopyParts
copy_of (Some (Copy x from q)) = Some (record { x = x; from = from; q = q })
copy_of other = None

-- an Undef
abbrev pub undef_of : Option Instr → Option (List VarId × PointId)
undef_of (Some (Undef xs q)) = Some (xs, q)
undef_of other = None

-- an Input
abbrev pub input_of : Option Instr → Option (VarId × PointId)
input_of (Some (Input x q)) = Some (x, q)
input_of other = None

-- an Add
abbrev pub add_of : Option Instr → Option ResultParts
add_of (Some (Add x o o' q)) = Some (record { x = x; o = o; o' = o'; q = q })
add_of other = None

-- a Sub
abbrev pub sub_of : Option Instr → Option ResultParts
sub_of (Some (Sub x o o' q)) = Some (record { x = x; o = o; o' = o'; q = q })
sub_of other = None

-- a Mul
abbrev pub mul_of : Option Instr → Option ResultParts
mul_of (Some (Mul x o o' q)) = Some (record { x = x; o = o; o' = o'; q = q })
mul_of other = None

-- a Load
abbrev pub load_of : Option Instr → Option LoadParts
load_of (Some (Load x y shape f q)) = Some (record { x = x; y = y; shape = shape; f = f; q = q })
load_of other = None

-- a Store
abbrev pub store_of : Option Instr → Option StoreParts
store_of (Some (Store y shape f from q)) = Some (record { y = y; shape = shape; f = f; from = from; q = q })
store_of other = None

-- a Malloc
abbrev pub malloc_of : Option Instr → Option MallocParts
malloc_of (Some (Malloc x shape q)) = Some (record { x = x; shape = shape; q = q })
malloc_of other = None

-- a Free
abbrev pub free_of : Option Instr → Option (Operand × PointId)
free_of (Some (Free from q)) = Some (from, q)
free_of other = None

-- a TestEq
abbrev pub test_eq_of : Option Instr → Option TestParts
test_eq_of (Some (TestEq o o' t f)) = Some (record { o = o; o' = o'; t = t; f = f })
test_eq_of other = None

-- a TestLe
abbrev pub test_le_of : Option Instr → Option TestParts
test_le_of (Some (TestLe o o' t f)) = Some (record { o = o; o' = o'; t = t; f = f })
test_le_of other = None

-- an AssumeShape
abbrev pub assume_of : Option Instr → Option AssumeParts
assume_of (Some (AssumeShape pred x os q)) = Some (record { pred = pred; x = x; os = os; q = q })
assume_of other = None

-- an AssertShape
abbrev pub assert_of : Option Instr → Option AssertParts
assert_of (Some (AssertShape pred o os q)) = Some (record { pred = pred; o = o; os = os; q = q })
assert_of other = None

-- an AssertEmpty
abbrev pub empty_of : Option Instr → Option PointId
empty_of (Some (AssertEmpty q)) = Some q
empty_of other = None

-- an End
abbrev pub is_end : Option Instr → Bool
is_end (Some End) = true
is_end other = false
