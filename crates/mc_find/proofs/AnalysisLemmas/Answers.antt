-- Answers of an analysis.
use Rattle.std.proofs.Common.{Bool, List}
use Rattle.std.specs.Prelude.{IfOk, Result}
use Rattle.std.proofs.lemmas.Result.{IfOk-weaker}
use Rattle.mc_lines.specs.declared.cert.line.Line.{Line}
use Rattle.mc_flow.specs.declared.defs.rules.Def.{Def}
use Rattle.mc_flow.specs.declared.graph.Flow.{Flow}
use Rattle.mc_find.specs.Analysis.Findings.{IsFound, IsProved}
use Rattle.mc_find.specs.declared.analysis.analysis.Findings.{Findings}

-- what is written of lines that are found proves
pub proved_so : {E : Type 0} (flow : Flow) (defs : List Def) (merge : Bool) (lines : List Line) (r : Result Findings E) → IsFound flow defs merge lines
    → IfOk r (λ f. (m : Bool) → IsFound flow defs m lines → IsProved flow defs m f) → IfOk r (IsProved flow defs merge)
proved_so flow defs merge lines r found told =
    IfOk-weaker r (λ (f : Findings). (m : Bool) → IsFound flow defs m lines → IsProved flow defs m f) (IsProved flow defs merge) (λ f given. given merge found) told
