use Rattle.mc_find.proofs.AnalysisLemmas.Spelled.{spelled}
use Rattle.mc_find.proofs.analysis.finding.proved.Goals as goal

pub returns : goal.returns
returns c = λ merge found. record {
  lines = c.args.lines.now;
  spelled = spelled c.args.lines.now c.in_ok-document.document.items c.in_ok-document.ensures;
  valid = found.valid;
  within = found.within;
  cuts = found.cuts;
  sides = found.sides;
  report = c.in_ok-report.ensures found.valid;
}
