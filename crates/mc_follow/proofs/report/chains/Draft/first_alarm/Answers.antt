use Rattle.std.proofs.Common.{◌≡◌, ◌∷◌, ◌∙◌, [], sym, subst}
use Rattle.mc_check_line.specs.Judging.{path}
use Rattle.mc_kernel.specs.Branches.{Path}
use Rattle.mc_rules_steps.specs.Unmet.{IsUnmet}
use Rattle.mc_follow.specs.Report.Report.{IsAlarmLine}
use Rattle.mc_follow.proofs.AlarmsLemmas.Followed.{current_is, none_open}
use Rattle.mc_follow.proofs.ReportLemmas.Chains.{alarm_told}
use Rattle.mc_follow.proofs.report.chains.Draft.first_alarm.Goals as goal

pub returns-in_default : goal.returns-in_default
returns-in_default c = λ b others gap is unmet.
    let none : b ∷ others ≡ [] = sym is ∙ none_open c.args.self.now.proof c.in_default.ensures in
    absurd (cc none)

pub returns : goal.returns
returns c = λ b others gap is unmet.
    let flow = c.args.flow.now in
    let defs = c.args.defs.now in
    let branch : Path = path c.in-Some.branch.now in
    let same : branch ≡ b = current_is c.args.self.now.proof branch b others is c.in-Some.ensures in
    let here : IsUnmet flow defs branch.point branch.state gap = subst (λ (d : Path). IsUnmet flow defs d.point d.state gap) (sym same) unmet in
    subst (λ (d : Path). IsAlarmLine flow defs d.point d.state c.push_alarm.new.out.items) same
    (alarm_told flow defs branch gap c.new-text.result.items c.push_alarm.new.out.items _ c.new-text.ensures.items c.in_ok-push_alarm.ensures.stuck
    c.in_ok-push_alarm.ensures.met here)
