use Rattle.std.proofs.Common.{◌++◌, ◌∙◌, refl, ap, subst}
use Rattle.mc_follow.specs.Report.Report.{head_line}
use Rattle.mc_state.specs.State.{State}
use Rattle.mc_state_io.specs.Text.Text.{IsTextOf, Text}
use Rattle.mc_follow.proofs.ReportLemmas.Told.{on_ok, text_told, written_told}
use Rattle.mc_follow.proofs.report.lines.push_head.Goals as goal

pub returns : goal.returns
returns c = on_ok _ _ c.push_head_line.result c.push_head_line.ensures (λ new.
    let flow = c.args.flow.now in
    let defs = c.args.defs.now in
    let line : Text = head_line flow c.args.point c.args.number c.in_ok-text.text in (
      line,
      record {
        state = c.in_ok-text.text;
        state_is = subst (λ (s : State). IsTextOf flow.vars defs flow.structs.list s c.in_ok-text.text)
            (written_told c.as_slice.result.now c.as_slice-2.result.now c.as_slice-3.result.now c.args.raw.now c.in_ok-found.found c.in-Some.state c.in_ok-found.ensures c.in-Some.is)
            (text_told c.as_slice-4.result.now flow.vars c.as_slice-5.result.now defs c.as_slice-6.result.now flow.structs.list
            c.in-Some.state c.in_ok-text.text c.as_slice-4.ensures c.as_slice-5.ensures.same c.as_slice-6.ensures c.in_ok-text.ensures);
        spelled = refl;
      },
      new ∙ ap (λ (t : Text). c.args.out.now.items ++ head_line flow c.args.point c.args.number t) c.as_slice-7.ensures,
    ))
