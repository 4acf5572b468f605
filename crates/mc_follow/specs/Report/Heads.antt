-- The heads of a document, and the lines of those that are written so far.
use Rattle.std.specs.Prelude.{◌≡◌, ◌==◌, ◌++◌, ◌∷◌, ℕ, suc, List, [], map, if◌then◌else◌}
use Rattle.std.specs.List.{AllByRecursion}
use Rattle.mc_base.specs.declared.ids.PointId.{PointId}
use Rattle.mc_lines.specs.declared.cert.line.Line.{Line}
use Rattle.mc_lines.specs.declared.cert.line.Line.TheVariants as line
use Rattle.mc_flow.specs.declared.defs.rules.Def.{Def}
use Rattle.mc_flow.specs.declared.graph.Flow.{Flow}
use Rattle.mc_state.specs.RawStates.{IsWellFormedRaw}
use Rattle.mc_state_io.specs.Text.Text.{Text}
use Rattle.mc_kernel.specs.Certificates.{WrittenHead}
use Rattle.mc_follow.specs.Report.Report.{AreHeadLines}

-- the head that a line writes
abbrev pub head_in : Line → List WrittenHead
head_in (line.Head p raw) = (p, raw) ∷ []
head_in other = []

-- the heads that lines write, in order
abbrev pub heads_of : List Line → List WrittenHead
heads_of [] = []
heads_of (l ∷ lines) = head_in l ++ heads_of lines

-- the states of heads are well formed
abbrev pub AreWellFormed : Flow → List Def → List WrittenHead → Type 0
AreWellFormed flow defs heads = AllByRecursion (λ h. IsWellFormedRaw defs flow.vars flow.structs.list h.1) heads

-- how many of some points are this one
abbrev pub number_at : PointId → List PointId → ℕ
number_at p [] = 0
number_at p (q ∷ points) = if q.0 == p.0 then suc (number_at p points) else number_at p points

-- the text is the lines of heads at these points
pub record AreWritten (flow : Flow) (defs : List Def) (heads : List WrittenHead) (points : List PointId) (text : Text) : Type 0 where
  pub points_are : points ≡ map (λ h. h.0) heads
  pub lines_are : AreHeadLines flow defs [] heads text
