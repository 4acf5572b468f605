use Rattle.std.proofs.Common.{◌≡◌, ◌∷◌, List, None, Option}
use Rattle.std.proofs.lemmas.Result.{IfOk-weaker}
use Rattle.mc_lines.specs.declared.cert.line.Line.{Line}
use Rattle.mc_lines.specs.declared.cert.line.Line.TheVariants.{Header}
use Rattle.mc_state.specs.declared.line.Form.TheVariants.{Chain}
use Rattle.mc_state.specs.declared.line.Version.TheVariants.{One}
use Rattle.mc_follow.specs.Report.Chains.{IsDraft, IsNoChain, IsReportOf}
use Rattle.mc_follow.specs.declared.report.chains.ChainReport.{ChainReport}
use Rattle.mc_follow.proofs.ReportLemmas.Chains.{all_drafted, next_draft, none_from, on_some, starts_draft}
use Rattle.mc_follow.proofs.report.chains.report_after.Goals as goal

pub loop-line-init : goal.loop-line-init
loop-line-init c = starts_draft c.args.flow.now c.args.defs.now c.args.lines.now c.start-draft.result c.start-draft.ensures

pub take-requires-clause-read : goal.take-requires-clause-read
take-requires-clause-read c = (c.loop-line.invariant.before, c.loop-line.invariant.draft)

pub loop-line-preserved : goal.loop-line-preserved
loop-line-preserved c =
    next_draft c.args.flow.now c.args.defs.now c.args.lines.now c.loop-line.line-index c.line-item.result c.loop-line.draft c.loop-line-test.true c.line-item.is
    c.loop-line.invariant c.take.new.self (c.in_ok-take.ensures.taken c.if-not-branch.false)

pub returns-then-not-branch-clause-none : goal.returns-then-not-branch-clause-none
returns-then-not-branch-clause-none c = λ none.
    none_from c.args.flow.now c.args.defs.now c.args.lines.now c.loop-line.line-index c.line-item.result c.loop-line.draft c.loop-line-test.true c.line-item.is
    c.loop-line.invariant (c.in_ok-take.ensures.refused c.if-not-branch.true)

pub returns-clause-some : goal.returns-clause-some
returns-clause-some c =
    let flow = c.args.flow.now in
    let defs = c.args.defs.now in
    let lines = c.args.lines.now in
    let all = all_drafted flow defs lines c.loop-line.line-index c.loop-line.draft c.loop-line-test.false c.loop-line.invariant in
    on_some (λ (report : ChainReport). (own : List Line) → IsDraft flow defs own c.loop-line.draft → IsReportOf flow defs (Header One Chain ∷ own) report)
    (IsReportOf flow defs (Header One Chain ∷ lines)) c.finish.result (λ report told. told lines all) c.finish.ensures.some

pub returns-clause-none : goal.returns-clause-none
returns-clause-none c =
    let flow = c.args.flow.now in
    let defs = c.args.defs.now in
    let lines = c.args.lines.now in
    let all = all_drafted flow defs lines c.loop-line.line-index c.loop-line.draft c.loop-line-test.false c.loop-line.invariant in
    IfOk-weaker c.finish.result
    (λ (found : Option ChainReport). found ≡ None → (own : List Line) → IsDraft flow defs own c.loop-line.draft → IsNoChain flow defs (Header One Chain ∷ own))
    (λ (found : Option ChainReport). found ≡ None → IsNoChain flow defs (Header One Chain ∷ lines)) (λ found told none. told none lines all) c.finish.ensures.none
