use Rattle.std.proofs.Common.{rules, ◌≡◌, ◌∙◌, List, refl, subst}
use Rattle.mc_lines.specs.declared.cert.line.Line.{Line}
use Rattle.mc_lines.specs.Written.Written.{IsWritten}
use Rattle.mc_find.proofs.AcceptedLemmas.{none_asked}
use Rattle.mc_find.proofs.AnalysisLemmas.Spelled.{spelled}
use Rattle.mc_find.proofs.analysis.finding.alarming.Goals as goal

pub returns : goal.returns
returns c =
    let chain = c.args.chain in
    let text = c.in_ok-document.document.items in
    let same : c.as_slice.result.now ≡ c.args.chain.lines.items = search rules in
    let written = subst (λ (lines : List Line). IsWritten lines text) same c.in_ok-document.ensures in
    record {
      lines = chain.lines.items;
      stuck = c.requires.chain.stuck;
      alarms = c.requires.chain.alarms;
      stuck_are = c.requires.chain.stuck_are;
      spelled = spelled chain.lines.items text written;
      chain = c.requires.chain.chain;
      within = c.requires.chain.within;
      cuts = none_asked c.args.flow.now chain.lines.items c.requires.no_loops;
      sides = c.requires.chain.places.sides;
      uncut = λ whole. c.requires.chain.places.cuts ∙ c.requires.no_loops;
      marked = λ whole. c.requires.chain.marked;
      not_marked = λ searched. absurd (searched (c.requires.no_loops, refl));
      report = c.requires.chain.report;
      counted = c.requires.chain.counted;
      some = c.requires.some;
    }
