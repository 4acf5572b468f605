use Rattle.std.proofs.Common.{◌∙◌, ℕ, List, subst}
use Rattle.mc_app.specs.Documents.{AlarmsAreFound, IsVerdictOn}
use Rattle.mc_app.proofs.Chains.{alarms_found}
use Rattle.mc_app.proofs.Hearing.{right_verdict, told_verdict}
use Rattle.mc_app.proofs.documents.verdict_in.Goals as goal

pub returns-clause-verdict : goal.returns-clause-verdict
returns-clause-verdict g c = λ bytes h.
    let flow = c.args.flow.now in
    let defs = c.args.defs.now in
    let judge = c.hear.new.judge in
    let heard = c.in_ok-hear.ensures.heard in
    let same_flow = c.in_ok-hear.ensures.same_judge.0 ∙ c.new-judge.ensures.flow in
    let same_defs = c.in_ok-hear.ensures.same_judge.1 ∙ c.new-judge.ensures.defs in
    let known = c.lores_are_there.ensures flow defs c.requires in
    let v = c.in_ok-verdict.verdict in
    let told = told_verdict flow defs judge same_flow same_defs heard.0 heard.1 v known.0 known.1 c.in_ok-verdict.ensures.tells in
    let right = right_verdict flow defs judge same_flow same_defs heard.0 heard.1 v c.in_ok-verdict.ensures.verdict in
    let whole = heard.2 bytes (c.size.ensures.same c.args.name.now ∙ h) (c.in_ok-size.ensures.size bytes h) in
    subst (λ (t : List ℕ). IsVerdictOn flow defs t v) whole (told, right)

pub returns-clause-safe : goal.returns-clause-safe
returns-clause-safe g c = λ good.
    let flow = c.args.flow.now in
    let defs = c.args.defs.now in
    let judge = c.hear.new.judge in
    let heard = c.in_ok-hear.ensures.heard in
    let same_flow = c.in_ok-hear.ensures.same_judge.0 ∙ c.new-judge.ensures.flow in
    let same_defs = c.in_ok-hear.ensures.same_judge.1 ∙ c.new-judge.ensures.defs in
    let known = c.lores_are_there.ensures flow defs c.requires in
    let told = told_verdict flow defs judge same_flow same_defs heard.0 heard.1 c.in_ok-verdict.verdict known.0 known.1 c.in_ok-verdict.ensures.tells in
    let certificate = told.safe.0 good in
    c.certificates_are_safe.ensures flow defs certificate.lines c.requires certificate.holds

pub returns-clause-faults : goal.returns-clause-faults
returns-clause-faults g c = λ bytes h.
    let flow = c.args.flow.now in
    let defs = c.args.defs.now in
    let judge = c.hear.new.judge in
    let heard = c.in_ok-hear.ensures.heard in
    let same_flow = c.in_ok-hear.ensures.same_judge.0 ∙ c.new-judge.ensures.flow in
    let same_defs = c.in_ok-hear.ensures.same_judge.1 ∙ c.new-judge.ensures.defs in
    let known = c.lores_are_there.ensures flow defs c.requires in
    let v = c.in_ok-verdict.verdict in
    let told = told_verdict flow defs judge same_flow same_defs heard.0 heard.1 v known.0 known.1 c.in_ok-verdict.ensures.tells in
    let whole = heard.2 bytes (c.size.ensures.same c.args.name.now ∙ h) (c.in_ok-size.ensures.size bytes h) in
    subst (λ (t : List ℕ). AlarmsAreFound flow defs t v) whole
    (alarms_found flow defs known.0.lines.know known.1.knows c.final_chains_find_faults.ensures.faults c.chain_judges_agree.ensures.legal c.requires heard.0 v told)
