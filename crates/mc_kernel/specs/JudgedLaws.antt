-- Lines are judged by their instances.
use Rattle.std.specs.Prelude.{◌≡◌, ◌↔◌, ◌⊎◌, ℕ, List, Some, Err}
use Rattle.mc_base.specs.declared.ids.NodeId.{NodeId}
use Rattle.mc_lines.specs.declared.cert.line.Line.{Line}
use Rattle.mc_flow.specs.declared.defs.rules.Def.{Def}
use Rattle.mc_flow.specs.declared.graph.Flow.{Flow}
use Rattle.mc_rules_logic.specs.Fold.Changed.{IsListWithout}
use Rattle.mc_state.specs.Premises.{IsJudged}
use Rattle.mc_rules_steps.specs.declared.gap.Gap.{Gap}
use Rattle.mc_rules_steps.specs.JudgedLaws.{AreGiven}
use Rattle.mc_rules_steps.specs.Unmet.{IsUnmet}
use Rattle.mc_kernel.specs.Branches.{Path, Setting}
use Rattle.mc_kernel.specs.Instances.{IsInstance}
use Rattle.mc_kernel.specs.Judges.{Knowledge, judged_line}

-- what is asked of a branch's state is answered rightly
pub record IsAsked (k : Knowledge) (flow : Flow) (defs : List Def) (b : Path) : Type 0 where
  pub given : AreGiven (k.know b.state) k.range flow defs b.point b.state
  pub left : (node : NodeId) → IsListWithout node b.state (k.left b.state node)
  pub gap : (gap : Gap) → (k.gap b.point b.state ≡ Some gap) ↔ IsUnmet flow defs b.point b.state gap

-- each line is judged by its instances
abbrev pub LinesAreJudged : Type 0
LinesAreJudged =
    (k : Knowledge) (flow : Flow) (defs : List Def) (g : Setting) (line : Line) (b : Path)
    → IsAsked k flow defs b → IsJudged (judged_line k flow defs g line b) (IsInstance flow defs g line b)

-- a line has one list of successors at most
abbrev pub LinesAreDetermined : Type 0
LinesAreDetermined =
    (k : Knowledge) (flow : Flow) (defs : List Def) (g : Setting) (line : Line) (b : Path) (next other : List Path)
    → IsAsked k flow defs b → IsInstance flow defs g line b next → IsInstance flow defs g line b other → next ≡ other

-- where a premise is unmet the line is no instance
abbrev pub UnmetIsNoLine : Type 0
UnmetIsNoLine =
    (k : Knowledge) (flow : Flow) (defs : List Def) (g : Setting) (line : Line) (b : Path) (premise : ℕ) (next : List Path)
    → IsAsked k flow defs b → judged_line k flow defs g line b ≡ Err premise → IsInstance flow defs g line b next → ⊥

-- and a line is an instance, or one premise is the first that is unmet
abbrev pub LinesAreDecided : Type 0
LinesAreDecided =
    (k : Knowledge) (flow : Flow) (defs : List Def) (g : Setting) (line : Line) (b : Path)
    → IsAsked k flow defs b
    → ((next : List Path) × IsInstance flow defs g line b next) ⊎ ((premise : ℕ) × (judged_line k flow defs g line b ≡ Err premise))
