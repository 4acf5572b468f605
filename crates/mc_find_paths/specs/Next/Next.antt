-- When a branch asks for a line, and for which.
use Rattle.std.specs.Prelude.{◌≡◌, ◌&&◌, false, List, Option, Some, None}
use Rattle.mc_base.specs.declared.ids.PointId.{PointId}
use Rattle.mc_lines.specs.declared.cert.line.Line.{Line}
use Rattle.mc_lines.specs.declared.cert.line.Line.TheVariants.{C1}
use Rattle.mc_flow.specs.declared.defs.rules.Def.{Def}
use Rattle.mc_flow.specs.declared.graph.Flow.{Flow}
use Rattle.mc_kernel.specs.Branches.{IsPlain, Path}
use Rattle.mc_kernel.specs.Judges.{is_cut}
use Rattle.mc_state.specs.Known.{Test}
use Rattle.mc_kernel.specs.Progress.Asked.{false_or_null}
use Rattle.mc_state.specs.declared.line.Form.{Form}
use Rattle.mc_state.specs.declared.line.Form.TheVariants.{Certificate, Chain}
use Rattle.mc_rules_steps.specs.declared.gap.Gap.{Gap}
use Rattle.mc_rules_steps.specs.Unmet.{IsUnmet}

-- the branch is no side branch, and not closing
abbrev pub GoesOn : Path → Type 0
GoesOn b = IsPlain b × (b.closing ≡ false)

-- its state is not false, no edge starts at null, and it has not come to a cut
abbrev pub IsAtCode : Test → List PointId → Path → Type 0
IsAtCode know cuts b = (false_or_null know b.state.graph.edges ≡ None) × ((b.moved && is_cut cuts b.point) ≡ false)

-- its instruction lacks something
abbrev pub HasGap : Flow → List Def → Path → Type 0
HasGap flow defs b = (gap : Gap) × IsUnmet flow defs b.point b.state gap

-- the line that says so, which only a chain can
abbrev pub stuck : Form → Option Line
stuck Certificate = None
stuck Chain = Some C1
