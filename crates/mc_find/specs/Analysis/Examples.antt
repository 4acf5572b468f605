-- Cuts of the lines of a small program.
use Rattle.std.specs.Prelude.{ℕ, List, [], ◌∷◌, map}
use Rattle.mc_base.specs.declared.ids.PointId.{PointId}
use Rattle.mc_flow.specs.declared.graph.Flow.{Flow}
use Rattle.mc_lines.specs.declared.cert.line.Line.{Line}
use Rattle.mc_lines.specs.declared.cert.line.Line.TheVariants.{Cut}

-- the point of a number
abbrev pub point : ℕ → PointId
point n = record { 0 = n }

-- a loop begins at point 1, and an `if` in it ends at point 3
abbrev pub looping : Flow
looping =
    record {
      points = [];
      vars = [];
      heads = point 1 ∷ [];
      merges = point 3 ∷ [];
      thresholds = [];
      structs = record { list = [] };
    }

-- an `if` ends at point 3
abbrev pub straight : Flow
straight = record looping { heads = [] }

-- lines that cut at points of these numbers
abbrev pub cutting : List ℕ → List Line
cutting numbers = map (λ n. Cut (point n)) numbers
