use Rattle.std.proofs.Common.{ℕ, List, subst}
use Rattle.mc_app.specs.Documents.{IsVerdictOn}
use Rattle.mc_app.proofs.Seeing.{alarms_are_seen, at_alarms, at_safe, safe_is_seen}
use Rattle.mc_app.proofs.demo.seen.of_flow.Goals as goal

pub returns-in-Safe : goal.returns-in-Safe
returns-in-Safe c =
    let flow = c.args.flow.now in
    let defs = c.args.defs.now in
    let f = c.in-Safe.findings in
    let v = c.in_ok-verdict-in-Safe.verdict in
    let said = subst (λ (text : List ℕ). IsVerdictOn flow defs text v) c.deref.ensures.value c.in_ok-verdict-in-Safe.ensures in
    safe_is_seen flow defs f v said (at_safe flow defs _ f c.in-Safe.is c.in_ok-analyse.ensures)

pub returns : goal.returns
returns c =
    let flow = c.args.flow.now in
    let defs = c.args.defs.now in
    let f = c.in-Alarms.findings in
    let v = c.in_ok-verdict-in-Alarms.verdict in
    let said = subst (λ (text : List ℕ). IsVerdictOn flow defs text v) c.deref-in-Alarms.ensures.value c.in_ok-verdict-in-Alarms.ensures in
    alarms_are_seen flow defs f v said c.lores_are_there.ensures c.short_chains_are_legal.ensures.legal c.requires _ (at_alarms flow defs _ f _ c.in-Alarms.is c.in_ok-analyse.ensures)
