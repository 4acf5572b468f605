use Rattle.std.proofs.Common.{◌∙◌, []}
use Rattle.mc_app.proofs.Hearing.{fresh, heard_more, right_verdict, told_verdict}
use Rattle.mc_app.proofs.documents.verdict_on.Goals as goal

pub returns : goal.returns
returns c =
    let flow = c.args.flow.now in
    let defs = c.args.defs.now in
    let text = c.args.document.now in
    let old = c.new-judge.result in
    let judge = c.feed.new.self in
    let begun = fresh flow defs old c.new-judge.ensures.flow c.new-judge.ensures.defs c.new-judge.ensures.heard in
    let heard = heard_more [] text old judge c.feed.ensures.same begun c.in_ok-feed.ensures.heard in
    let same_flow = c.feed.ensures.same.0 ∙ c.new-judge.ensures.flow in
    let same_defs = c.feed.ensures.same.1 ∙ c.new-judge.ensures.defs in
    let known = c.lores_are_there.ensures flow defs c.requires in
    let v = c.in_ok-verdict.verdict in (
      told_verdict flow defs judge same_flow same_defs text heard v known.0 known.1 c.in_ok-verdict.ensures.tells,
      right_verdict flow defs judge same_flow same_defs text heard v c.in_ok-verdict.ensures.verdict,
    )
