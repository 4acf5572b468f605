-- The states of exact branches.
use Rattle.std.specs.Prelude.{List}
use Rattle.mc_flow.specs.declared.defs.rules.Def.{Def}
use Rattle.mc_flow.specs.declared.graph.Flow.{Flow}
use Rattle.mc_flow.specs.Valid.{IsValid}
use Rattle.mc_kernel.specs.Reading.Documents.{IsMade}
use Rattle.mc_exact.specs.Tracks.{Track, IsExactTrack}

-- they are well made
abbrev pub ExactStatesAreWellMade : Type 0
ExactStatesAreWellMade =
    (flow : Flow) (defs : List Def) (t : Track) → IsValid flow defs → IsExactTrack flow t → IsMade flow defs t.0
