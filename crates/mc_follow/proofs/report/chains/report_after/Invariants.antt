use Rattle.std.proofs.Common.{drop}
use Rattle.mc_follow.proofs.ReportLemmas.Chains.{IsDraftUpTo}
use Rattle.mc_follow.proofs.report.chains.report_after.Given as goal

abbrev pub invariant-loop-line : goal.invariant-loop-line
invariant-loop-line l = IsDraftUpTo l.flow l.defs l.lines (drop l.line-index l.lines) l.draft
