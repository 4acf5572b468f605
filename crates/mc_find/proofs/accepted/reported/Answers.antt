use Rattle.std.proofs.Common.{◌≡◌, ◌∙◌, Option, false, true, subst, sym}
use Rattle.std.specs.Prelude.{IfSome}
use Rattle.mc_follow.specs.declared.report.chains.ChainReport.{ChainReport}
use Rattle.mc_follow.specs.Report.Chains.{IsReportOf}
use Rattle.mc_find.proofs.AcceptedLemmas.{chain_reported, no_chain_found, no_stuck_found}
use Rattle.mc_find.proofs.accepted.reported.Goals as goal

pub returns-then-not-ends_few-clause-none : goal.returns-then-not-ends_few-clause-none
returns-then-not-ends_few-clause-none c = λ none found.
    let clash : false ≡ true = sym c.if-not-ends_few.true ∙ c.ends_few.ensures.1 found.within in
    cc clash

pub returns-then-not-branch-clause-none : goal.returns-then-not-branch-clause-none
returns-then-not-branch-clause-none c = λ none found.
    let clash : false ≡ true = sym c.if-not-branch.true ∙ c.in_ok-has_cuts.ensures.1 found.cuts in
    cc clash

pub returns-in_default-clause-none : goal.returns-in_default-clause-none
returns-in_default-clause-none c = λ none.
    no_chain_found c.args.flow.now c.args.defs.now c.args.merge c.args.lines.now (c.in_ok-report.ensures.none c.in_default.is)

pub returns-then-report-eq0-clause-none : goal.returns-then-report-eq0-clause-none
returns-then-report-eq0-clause-none c = λ none.
    let flow = c.args.flow.now in
    let defs = c.args.defs.now in
    let lines = c.args.lines.now in
    let report = c.in-Some.report in
    let told : IsReportOf flow defs lines report = subst (λ (found : Option ChainReport). IfSome found (IsReportOf flow defs lines)) c.in-Some.is c.in_ok-report.ensures.some in
    no_stuck_found c.judges_are_there.ensures c.documents_are_read.ensures.chains flow defs c.args.merge lines report c.requires c.if-report-eq0.true told

pub returns-clause-some : goal.returns-clause-some
returns-clause-some c =
    let flow = c.args.flow.now in
    let defs = c.args.defs.now in
    let lines = c.args.lines.now in
    let report = c.in-Some.report in
    let told : IsReportOf flow defs lines report = subst (λ (found : Option ChainReport). IfSome found (IsReportOf flow defs lines)) c.in-Some.is c.in_ok-report.ensures.some in
    chain_reported flow defs c.args.merge lines report (c.ends_few.ensures.0 c.if-not-ends_few.false) (c.in_ok-has_cuts.ensures.0 c.if-not-branch.false)
    c.if-report-eq0.false told
