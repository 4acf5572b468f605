-- Branches of documents go on.
use Rattle.std.specs.Prelude.{◌≡◌, ◌<◌, ◌⊎◌, Bool, true, false, List, length}
use Rattle.std.specs.List.{AllByRecursion}
use Rattle.mc_lines.specs.declared.cert.line.Line.{Line}
use Rattle.mc_lines.specs.declared.cert.line.Line.TheVariants as line
use Rattle.mc_flow.specs.declared.defs.rules.Def.{Def}
use Rattle.mc_flow.specs.declared.graph.Flow.{Flow}
use Rattle.mc_flow.specs.Valid.{IsValid}
use Rattle.mc_rules_steps.specs.declared.gap.Gap.{Gap}
use Rattle.mc_rules_steps.specs.Unmet.{IsUnmet}
use Rattle.mc_kernel.specs.Branches.{Path, Setting, MayStep, IsPlain, IsChain}
use Rattle.mc_kernel.specs.Instances.{IsInstance}
use Rattle.mc_kernel.specs.Reading.Documents.{IsMade}

-- the line is one of an instruction, one that unfolds an edge, or the one that ends a false state
abbrev pub advances : Line → Bool
advances (line.Step rule) = true
advances (line.L1 edge) = true
advances (line.L2 edge) = true
advances line.L12 = true
advances (line.L15 edge) = true
advances other = false

-- a branch advances: by such a line, which is an instance there
pub record Advances (flow : Flow) (defs : List Def) (g : Setting) (b : Path) : Type 0 where
  pub line : Line
  pub is_such : advances line ≡ true
  pub next : List Path
  pub instance : IsInstance flow defs g line b next

-- the branch is at a point of the flow graph
abbrev pub IsInside : Flow → Path → Type 0
IsInside flow b = b.point.0 < length flow.points

-- ---- progress

-- a branch of a valid flow graph with a well-made state, where an instruction's line may stand, advances, or its
-- instruction is unmet
abbrev pub BranchesAdvance : Type 0
BranchesAdvance =
    (flow : Flow) (defs : List Def) (g : Setting) (b : Path)
    → IsValid flow defs → IsMade flow defs b → IsInside flow b → MayStep g b
    → Advances flow defs g b ⊎ ((gap : Gap) × IsUnmet flow defs b.point b.state gap)

-- so in a chain it advances, or ends as stuck
abbrev pub ChainsAdvance : Type 0
ChainsAdvance =
    (flow : Flow) (defs : List Def) (g : Setting) (b : Path)
    → IsValid flow defs → IsMade flow defs b → IsInside flow b → MayStep g b → IsChain g
    → Advances flow defs g b ⊎ ((next : List Path) × IsInstance flow defs g line.C1 b next)

-- ---- what stays

-- what comes of a branch inside a valid flow graph is inside it
abbrev pub LinesStayInside : Type 0
LinesStayInside =
    (flow : Flow) (defs : List Def) (g : Setting) (l : Line) (b : Path) (next : List Path)
    → IsValid flow defs → IsInside flow b → IsInstance flow defs g l b next → AllByRecursion (IsInside flow) next

-- what comes of a branch that is not closing is not, where no side branch but by a line that advances
abbrev pub LinesStayOpen : Type 0
LinesStayOpen =
    (flow : Flow) (defs : List Def) (g : Setting) (l : Line) (b : Path) (next : List Path)
    → b.closing ≡ false → (IsPlain b → advances l ≡ true) → IsInstance flow defs g l b next
    → AllByRecursion (λ n. n.closing ≡ false) next
