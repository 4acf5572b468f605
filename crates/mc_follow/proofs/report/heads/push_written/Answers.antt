use Rattle.std.proofs.Common.{◌≡◌, ◌++◌, ◌∷◌, [], ◌∙◌, List, ap, sym, subst}
use Rattle.mc_base.specs.declared.ids.PointId.{PointId}
use Rattle.mc_lines.specs.declared.cert.line.Line.{Line}
use Rattle.mc_state_io.specs.Text.Text.{Text}
use Rattle.mc_follow.specs.Report.Heads.{AreWritten, head_in, number_at}
use Rattle.mc_follow.proofs.ReportLemmas.Written.{with_head}
use Rattle.mc_follow.proofs.report.heads.push_written.Goals as goal

pub returns-in_ok-push-in-Head : goal.returns-in_ok-push-in-Head
returns-in_ok-push-in-Head c = λ heads written.
    let flow = c.args.flow.now in
    let defs = c.args.defs.now in
    let own = c.in_ok-push_head-in-Head.ensures in
    let number : c.number_at-number.result ≡ number_at c.in-Head.point c.args.points.now.items =
    c.number_at-number.ensures ∙ ap (λ (ps : List PointId). number_at c.in-Head.point ps) c.as_slice.ensures.value in
    let all = with_head flow defs heads c.args.points.now.items c.args.text.now.items own.0 (c.in-Head.point, c.in-Head.raw) c.number_at-number.result written number own.1 in
    subst (λ (l : Line). AreWritten flow defs (heads ++ head_in l) c.push.new.self.items c.push_head.new.out.items) (sym c.in-Head.is)
    (subst (λ (ps : List PointId). AreWritten flow defs (heads ++ (c.in-Head.point, c.in-Head.raw) ∷ []) ps c.push_head.new.out.items) (sym c.in_ok-push-in-Head.ensures.items)
    (subst (λ (t : Text). AreWritten flow defs (heads ++ (c.in-Head.point, c.in-Head.raw) ∷ []) (c.args.points.now.items ++ c.in-Head.point ∷ []) t) (sym own.2) all))
