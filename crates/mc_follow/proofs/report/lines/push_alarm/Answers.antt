use Rattle.std.proofs.Common.{◌++◌, ◌∙◌, refl, ap}
use Rattle.mc_follow.specs.Report.Report.{alarm_line}
use Rattle.mc_state_io.specs.Text.Text.{Text}
use Rattle.mc_follow.proofs.ReportLemmas.Told.{text_told}
use Rattle.mc_follow.proofs.report.lines.push_alarm.Goals as goal

pub returns-in_default-clause-met : goal.returns-in_default-clause-met
returns-in_default-clause-met c = λ e. (refl, λ gap unmet. c.in_default.not-Some gap ((c.in_ok-gap.ensures gap).1 unmet))

pub returns-clause-stuck : goal.returns-clause-stuck
returns-clause-stuck c =
    let flow = c.args.flow.now in
    let defs = c.args.defs.now in
    let line : Text = alarm_line flow defs c.args.point c.in-Some.gap c.in_ok-text.text in (
      (c.in_ok-gap.ensures c.in-Some.gap).0 c.in-Some.is,
      (
        line,
        record {
          gap = c.in-Some.gap;
          unmet = (c.in_ok-gap.ensures c.in-Some.gap).0 c.in-Some.is;
          state = c.in_ok-text.text;
          state_is = text_told c.as_slice.result.now flow.vars c.as_slice-2.result.now defs c.as_slice-3.result.now flow.structs.list
              c.args.state.now c.in_ok-text.text c.as_slice.ensures c.as_slice-2.ensures.same c.as_slice-3.ensures c.in_ok-text.ensures;
          spelled = refl;
        },
        c.in_ok-push_alarm_line.ensures
            ∙ ap (λ (t : Text). c.args.out.now.items ++ alarm_line flow defs c.args.point c.in-Some.gap t) c.as_slice-4.ensures,
      ),
    )
