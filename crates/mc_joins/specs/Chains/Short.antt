-- Chains without lines that change the states of cuts, as `mc_kernel` reads them.
use Rattle.std.specs.Prelude.{◌≡◌, ℕ, false, List, Result, Ok, Err}
use Rattle.mc_lines.specs.declared.cert.line.Line.{Line}
use Rattle.mc_flow.specs.declared.defs.rules.Def.{Def}
use Rattle.mc_flow.specs.declared.graph.Flow.{Flow}
use Rattle.mc_state.specs.declared.line.Form.TheVariants.{Chain}
use Rattle.mc_kernel.specs.Certificates.{states_of}
use Rattle.mc_kernel.specs.Reading.Documents.{reading_document}
use Rattle.mc_kernel.specs.Readings as kernel
use Rattle.mc_joins.specs.Chains.Chains.{changes_some}
use Rattle.mc_joins.specs.Chains.Judges.{Lore, Reading, Stage, cutting, finished, heading, passing, reading_chain}

-- the lines of rules are those of the first pass
abbrev pub stage_of : kernel.Stage → Stage
stage_of kernel.cutting = cutting
stage_of kernel.heading = heading
stage_of kernel.ruling = passing
stage_of kernel.finished = finished

-- which has begun with them
abbrev pub round_of : kernel.Stage → ℕ
round_of kernel.cutting = 0
round_of kernel.heading = 0
round_of kernel.ruling = 1
round_of kernel.finished = 1

-- a chain of one pass of which some lines are read
abbrev pub as_chain : kernel.Reading → Reading
as_chain r = record {
  stage = stage_of r.stage;
  cuts = r.cuts;
  heads = states_of r.heads;
  round = round_of r.stage;
  branches = r.branches;
  stuck = r.stuck;
  changed = false;
}

-- what it became, or the line that is refused
abbrev pub seen_as_chain : Result kernel.Reading (ℕ × ℕ) → Result Reading (ℕ × ℕ)
seen_as_chain (Ok r) = Ok (as_chain r)
seen_as_chain (Err refused) = Err refused

-- without lines that change the states of cuts a chain is read as `mc_kernel` reads it: it becomes the same, or the same
-- line is refused with the same premise
abbrev pub ShortReadingsAgree : Type 0
ShortReadingsAgree =
    (k : Lore) (flow : Flow) (defs : List Def) (lines : List Line) → changes_some lines ≡ false
    → reading_chain k flow defs lines ≡ seen_as_chain (reading_document k.lines k.formed flow defs Chain lines)
