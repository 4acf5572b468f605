-- Single steps on small heaps.
use Rattle.std.specs.Prelude.{ℕ, ℤ, pos, Option, List, [], ◌∷◌}
use Rattle.std.specs.FinMap as map
use Rattle.mc_base.specs.declared.ids.PointId.{PointId}
use Rattle.mc_base.specs.declared.ids.VarId.{VarId}
use Rattle.mc_base.specs.declared.text.place.Place.{Place}
use Rattle.mc_flow.specs.Heap.Heap.{Block}
use Rattle.mc_flow.specs.Heap.Adding.{with_blocks}
use Rattle.mc_flow.specs.Heap.Choices.{Choice}
use Rattle.mc_flow.specs.Defs.Examples.{structs, defs}
use Rattle.mc_flow.specs.declared.instr.Instr.{Instr}
use Rattle.mc_flow.specs.declared.instr.Operand.{Operand}
use Rattle.mc_flow.specs.declared.instr.Operand.TheVariants.{Const}
use Rattle.mc_flow.specs.declared.graph.Flow.{Flow}
use Rattle.mc_flow.specs.Steps.{Config, Result, Step}

-- a place of a text
abbrev pub somewhere : Place
somewhere = record { line = 3; column = 5 }

-- the point that an instruction goes on to
abbrev pub behind : PointId
behind = record { 0 = 1 }

-- variable 0
abbrev pub x : VarId
x = record { 0 = 0 }

-- a constant
abbrev pub number : ℕ → Operand
number n = Const (pos n)

-- a flow graph of one instruction
abbrev pub only : Instr → Flow
only code =
    record {
      points = record { code = code; place = somewhere }
          ∷ [];
      vars = [];
      heads = [];
      merges = [];
      thresholds = [];
      structs = record { list = structs };
    }

-- at a point, with a value of x, and with blocks
abbrev pub config : ℕ → Option ℤ → List (ℕ × Block) → Config
config point value blocks = record { point = point; vars = value ∷ []; heap = with_blocks map.empty blocks }

-- one step of the instruction from there comes to this
abbrev pub StepsTo : Instr → Option ℤ → List (ℕ × Block) → List Choice → Result → Type 0
StepsTo code value blocks choices r = Step (only code) defs (config 0 value blocks) choices r

-- there is no such step
abbrev pub HasNoStep : Instr → Option ℤ → List (ℕ × Block) → List Choice → Type 0
HasNoStep code value blocks choices = (r : Result) → ¬ StepsTo code value blocks choices r
