-- Lines of a form.
use Rattle.std.proofs.Common.{◌≡◌, List, sym, subst}
use Rattle.std.specs.Prelude.{Result}
use Rattle.mc_lines.specs.declared.cert.line.Line.{Line}
use Rattle.mc_flow.specs.declared.defs.rules.Def.{Def}
use Rattle.mc_flow.specs.declared.graph.Flow.{Flow}
use Rattle.mc_kernel.specs.Branches.{Path, Setting}
use Rattle.mc_kernel.specs.Judges.{Knowledge, judged_line}
use Rattle.mc_check_line.specs.declared.branch.Next.{Next}
use Rattle.mc_check_line.specs.declared.branch.Refused.{Refused}
use Rattle.mc_check_line.specs.Judging.{IsLineAnswer}

-- a line answers as the form that it is
pub at_line : (k : Knowledge) (flow : Flow) (defs : List Def) (g : Setting) (line form : Line) (b : Path) (answer : Result Next Refused)
    → line ≡ form → IsLineAnswer (judged_line k flow defs g form b) b answer → IsLineAnswer (judged_line k flow defs g line b) b answer
at_line k flow defs g line form b answer is h = subst (λ l. IsLineAnswer (judged_line k flow defs g l b) b answer) (sym is) h
