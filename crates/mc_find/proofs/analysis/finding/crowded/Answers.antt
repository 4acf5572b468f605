use Rattle.mc_find.proofs.AnalysisLemmas.Spelled.{spelled}
use Rattle.mc_find.proofs.analysis.finding.crowded.Goals as goal

pub returns : goal.returns
returns c = record {
  lines = c.args.lines.now;
  spelled = spelled c.args.lines.now c.in_ok-text.text.items c.in_ok-text.ensures;
  crowded = c.requires;
}
