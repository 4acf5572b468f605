use Rattle.std.proofs.Common.{◌++◌, ◌∙◌, ap}
use Rattle.mc_state_io.specs.Text.Text.{Text}
use Rattle.mc_follow.specs.Report.Report.{count_line}
use Rattle.mc_follow.proofs.ReportLemmas.Chains.{ended_report, unended_is_none}
use Rattle.mc_follow.proofs.report.chains.Draft.finish.Goals as goal

pub returns-in-Ok-clause-some : goal.returns-in-Ok-clause-some
returns-in-Ok-clause-some c = λ lines draft.
    let old = c.args.self in
    ended_report c.documents_are_followed.ensures c.args.flow.now c.args.defs.now c.requires lines old _ c.in-Ok.ensures.ok.ended c.in-Ok.ensures.ok.alarms
    (c.in_ok-push_count-in-Ok.ensures
    ∙ ap (λ (t : Text). t ++ count_line c.in-Ok.complete.alarms)
    (c.in_ok-extend_from_slice-in-Ok.ensures.items ∙ ap (λ (t : Text). old.heads.items ++ t) c.as_slice.ensures.value)) draft

pub returns-clause-none : goal.returns-clause-none
returns-clause-none c = λ none lines draft.
    unended_is_none c.documents_are_followed.ensures c.args.flow.now c.args.defs.now c.requires lines c.args.self c.in-Err.ensures.err.1 draft
