-- Branches on a stack, and stages.
use Rattle.std.specs.Prelude.{List, map, reverse}
use Rattle.std.specs.List.{AllByRecursion}
use Rattle.mc_flow.specs.declared.defs.rules.Def.{Def}
use Rattle.mc_flow.specs.declared.graph.Flow.{Flow}
use Rattle.mc_state.specs.Fits.{IsWellMade}
use Rattle.mc_kernel.specs.Branches.{Head, Path}
use Rattle.mc_kernel.specs.Readings as readings
use Rattle.mc_kernel.specs.Reading.Documents.{IsMade}
use Rattle.mc_check_line.specs.declared.branch.Branch.{Branch}
use Rattle.mc_check_line.specs.Judging.{path}
use Rattle.mc_document.specs.declared.proof.stage.Stage.{Stage}
use Rattle.mc_document.specs.declared.proof.stage.Stage.TheVariants.{Cutting, Heading, Ruling, Finished}

-- the branches on a stack, the last first
abbrev pub in_order : List Branch → List Path
in_order stack = map path (reverse stack)

-- the states of branches are well made
abbrev pub AreMade : Flow → List Def → List Path → Type 0
AreMade flow defs branches = AllByRecursion (IsMade flow defs) branches

-- so are those of heads
abbrev pub HeadsAreMade : Flow → List Def → List Head → Type 0
HeadsAreMade flow defs heads = AllByRecursion (λ h. IsWellMade defs flow.vars flow.structs.list h.1) heads

-- how far a document is read
abbrev pub stage_of : Stage → readings.Stage
stage_of Cutting = readings.cutting
stage_of Heading = readings.heading
stage_of Ruling = readings.ruling
stage_of Finished = readings.finished
