-- The operations of instructions.
use Rattle.std.specs.Prelude.{List, [], ◌∷◌, Option, Some, None}
use Rattle.std.specs.List.{AllByRecursion}
use Rattle.mc_base.specs.declared.ids.NodeId.{NodeId}
use Rattle.mc_base.specs.declared.plain.Atom.{Atom}
use Rattle.mc_pure.specs.Pure.{AreOfOneKind, IsNode, IsWellFormed, Kinds}
use Rattle.mc_flow.specs.declared.instr.Instr.{Instr}
use Rattle.mc_flow.specs.declared.instr.Instr.TheVariants.{Add, Sub, Mul}
use Rattle.mc_flow.specs.declared.instr.Operand.{Operand}
use Rattle.mc_base.specs.declared.ids.PointId.{PointId}
use Rattle.mc_base.specs.declared.ids.VarId.{VarId}
use Rattle.mc_rules_steps.specs.Sums as rules
use Rattle.mc_apply_steps.specs.declared.compute.results.Operation.{Operation}
use Rattle.mc_apply_steps.specs.declared.compute.results.Operation.TheVariants.{Sum, Difference, Product}

-- the operation as rules speak of it
abbrev pub operation : Operation → rules.Operation
operation Sum = rules.sum
operation Difference = rules.difference
operation Product = rules.product

-- the instruction that computes it
abbrev pub computes : Operation → VarId → Operand → Operand → PointId → Instr
computes Sum x o o' q = Add x o o' q
computes Difference x o o' q = Sub x o o' q
computes Product x o o' q = Mul x o o' q

-- what is there, as a list
abbrev pub list_of : {A : Type 0} → Option A → List A
list_of None = []
list_of (Some a) = a ∷ []

-- the atom may be written of a node that is there
abbrev pub MayStand : NodeId → Option Atom → Type 0
MayStand n atom = (kinds : Kinds) → IsNode kinds n → AllByRecursion (IsWellFormed kinds) (list_of atom)

-- the atom may be written of two nodes of one kind
abbrev pub MayRelate : NodeId → NodeId → Option Atom → Type 0
MayRelate n m atom = (kinds : Kinds) → AreOfOneKind kinds n m → AllByRecursion (IsWellFormed kinds) (list_of atom)
