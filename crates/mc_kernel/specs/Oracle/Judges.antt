-- There is a right judge of documents.
use Rattle.std.specs.Prelude.{List, Bool}
use Rattle.mc_flow.specs.declared.defs.rules.Def.{Def}
use Rattle.mc_flow.specs.declared.graph.Flow.{Flow}
use Rattle.mc_flow.specs.Valid.{IsValid}
use Rattle.mc_kernel.specs.Judges.{Knowledge}
use Rattle.mc_kernel.specs.Reading.Documents.{IsJudge}
use Rattle.mc_state.specs.declared.raw_state.RawState.{RawState}

-- of each valid flow graph there is one: what is asked of well-made states has an answer
abbrev pub JudgesAreThere : Type 0
JudgesAreThere =
    (flow : Flow) (defs : List Def) → IsValid flow defs
    → (k : Knowledge) × (well : RawState → Bool) × IsJudge k well flow defs
