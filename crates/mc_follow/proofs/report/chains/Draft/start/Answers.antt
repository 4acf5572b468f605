use Rattle.mc_follow.proofs.ReportLemmas.Chains.{begun_draft}
use Rattle.mc_follow.proofs.report.chains.Draft.start.Goals as goal

pub returns : goal.returns
returns c =
    begun_draft c.documents_are_followed.ensures c.args.flow.now c.args.defs.now c.requires _ c.start.ensures c.new.ensures.items c.new-2.ensures.items
    c.new-3.ensures.items
