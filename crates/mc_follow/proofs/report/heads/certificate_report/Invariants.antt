use Rattle.mc_follow.proofs.ReportLemmas.Written.{UpTo}
use Rattle.mc_follow.proofs.report.heads.certificate_report.Given as goal

abbrev pub invariant-loop-line : goal.invariant-loop-line
invariant-loop-line l = UpTo l.flow l.defs l.lines l.line-index l.points.items l.text.items
