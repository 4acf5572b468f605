-- What the steps of a flow graph ask for.
use Rattle.std.specs.Prelude.{◌≡◌, ℤ, List, Option, Some, None, slice_get}
use Rattle.mc_flow.specs.Heap.Choices.{Choice}
use Rattle.mc_flow.specs.declared.defs.rules.Def.{Def}
use Rattle.mc_flow.specs.declared.graph.Flow.{Flow}
use Rattle.mc_flow.specs.declared.graph.Point.{Point}
use Rattle.mc_flow.specs.declared.instr.Instr.{Instr}
use Rattle.mc_flow.specs.declared.instr.Instr.TheVariants.{Skip, Copy, Undef, Input, Add, Sub, Mul, Load, Store, Malloc, Free, TestEq, TestLe, AssumeShape, AssertShape, AssertEmpty, End, Fail}
use Rattle.mc_flow.specs.Steps.{Config}
use Rattle.mc_flow.specs.Values.{values_of}
use Rattle.mc_semantics.specs.Waiting.Requests.{Request, an_input, an_address, a_shape}

-- the instruction asks for this: the arguments of a shape are taken before
abbrev pub InstructionAsks : List Def → Instr → Config → Request → Type 0
InstructionAsks defs (Input x q) c request = request ≡ an_input
InstructionAsks defs (Malloc x s q) c request = request ≡ an_address c.heap
InstructionAsks defs (AssumeShape pred x os q) c request =
    (args : List ℤ) × (values_of c.vars os ≡ Some args) × (request ≡ a_shape defs pred args c.heap)
InstructionAsks defs (Skip q) c request = ⊥
InstructionAsks defs (Copy x o q) c request = ⊥
InstructionAsks defs (Undef xs q) c request = ⊥
InstructionAsks defs (Add x o p q) c request = ⊥
InstructionAsks defs (Sub x o p q) c request = ⊥
InstructionAsks defs (Mul x o p q) c request = ⊥
InstructionAsks defs (Load x y s f q) c request = ⊥
InstructionAsks defs (Store y s f o q) c request = ⊥
InstructionAsks defs (Free o q) c request = ⊥
InstructionAsks defs (TestEq o p t f) c request = ⊥
InstructionAsks defs (TestLe o p t f) c request = ⊥
InstructionAsks defs (AssertShape pred o os q) c request = ⊥
InstructionAsks defs (AssertEmpty q) c request = ⊥
InstructionAsks defs End c request = ⊥
InstructionAsks defs Fail c request = ⊥

abbrev pub PointAsks : List Def → Option Point → Config → Request → Type 0
PointAsks defs None c request = ⊥
PointAsks defs (Some p) c request = InstructionAsks defs p.code c request

-- the step of the configuration asks for this, with all its choices left
abbrev pub Asks : Flow → List Def → Config → List Choice → Request → List Choice → Type 0
Asks flow defs c choices request left = (left ≡ choices) × PointAsks defs (slice_get flow.points c.point) c request
