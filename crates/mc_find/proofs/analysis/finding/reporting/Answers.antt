use Rattle.std.proofs.Common.{map, refl}
use Rattle.mc_exact.specs.Marks.{unmarked}
use Rattle.mc_find.proofs.AnalysisLemmas.Spelled.{own_branches, spelled}
use Rattle.mc_find.proofs.analysis.finding.reporting.Goals as goal

pub returns : goal.returns
returns c = record {
  lines = c.args.lines.now;
  stuck = c.requires.reported.stuck;
  alarms = map unmarked c.requires.reported.stuck;
  stuck_are = own_branches c.requires.reported.stuck;
  spelled = spelled c.args.lines.now c.in_ok-document.document.items c.in_ok-document.ensures;
  chain = c.requires.reported.chain;
  within = c.requires.reported.within;
  cuts = c.requires.reported.cuts;
  sides = c.requires.reported.sides;
  uncut = λ whole. absurd (c.requires.searched whole);
  marked = λ whole. absurd (c.requires.searched whole);
  not_marked = λ searched. refl;
  report = c.requires.reported.report;
  counted = c.requires.reported.counted;
  some = c.requires.reported.some;
}
