use Rattle.std.proofs.Common.{sym, subst}
use Rattle.mc_follow.specs.Report.Report.{IsCertificateReport}
use Rattle.mc_state_io.specs.Text.Text.{Text}
use Rattle.mc_follow.proofs.ReportLemmas.Written.{heads_formed, line_formed, next_up, whole_report}
use Rattle.mc_follow.proofs.report.heads.certificate_report.Goals as goal

pub push_written-requires : goal.push_written-requires
push_written-requires c =
    let flow = c.args.flow.now in
    let defs = c.args.defs.now in
    let lines = c.args.lines.now in
    line_formed flow defs lines c.loop-line.line-index c.line-item.result c.loop-line.points.items c.loop-line.text.items
    c.loop-line-test.true c.line-item.is (heads_formed flow defs lines c.requires) c.loop-line.invariant

pub loop-line-preserved : goal.loop-line-preserved
loop-line-preserved c =
    let flow = c.args.flow.now in
    let defs = c.args.defs.now in
    let lines = c.args.lines.now in
    next_up flow defs lines c.loop-line.line-index c.line-item.result c.loop-line.points.items _ c.loop-line.text.items _
    c.loop-line-test.true c.line-item.is c.loop-line.invariant c.in_ok-push_written.ensures

pub returns : goal.returns
returns c = λ own.
    let flow = c.args.flow.now in
    let defs = c.args.defs.now in
    subst (λ (t : Text). IsCertificateReport flow defs own.heads t) (sym c.in_ok-extend_from_slice.ensures.items)
    (whole_report flow defs c.args.lines.now c.loop-line.line-index c.loop-line.points.items c.loop-line.text.items c.loop-line-test.false c.loop-line.invariant own)
