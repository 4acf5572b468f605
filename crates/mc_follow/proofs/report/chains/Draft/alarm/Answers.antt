use Rattle.std.proofs.Common.{sym, subst}
use Rattle.std.specs.Prelude.{IfOk}
use Rattle.mc_lines.specs.declared.cert.line.Line.{Line}
use Rattle.mc_follow.specs.Report.Chains.{AddsAlarm}
use Rattle.mc_follow.proofs.ReportLemmas.Chains.{other_adds}
use Rattle.mc_follow.proofs.report.chains.Draft.alarm.Goals as goal

pub returns-in-C1 : goal.returns-in-C1
returns-in-C1 c =
    let adds : Line → Type 0 = λ (l : Line). IfOk c.first_alarm.result (λ text. AddsAlarm c.args.flow.now c.args.defs.now c.args.self.now.proof l text.items) in
    subst adds (sym c.in-C1.is) c.first_alarm.ensures

pub returns-in_default : goal.returns-in_default
returns-in_default c = other_adds c.args.flow.now c.args.defs.now c.args.self.now.proof c.args.line.now c.new.result.items c.in_default.not-C1 c.new.ensures.items
