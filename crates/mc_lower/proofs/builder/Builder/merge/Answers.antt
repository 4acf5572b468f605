use Rattle.std.proofs.Common.{ap}
use Rattle.mc_flow.specs.declared.instr.Instr.TheVariants.{Skip}
use Rattle.mc_lower_spec.specs.Graphs.{point}
use Rattle.mc_lower.specs.declared.lines.Awaited.{Awaited}
use Rattle.mc_lower.proofs.Agreeing.{appended_there, targets}
use Rattle.mc_lower.proofs.Meeting.{merged}
use Rattle.mc_lower.proofs.Waiting.{under}
use Rattle.mc_lower.proofs.builder.Builder.merge.Goals as goal

pub returns-clause-leads : goal.returns-clause-leads
returns-clause-leads c = λ w agrees.
    let landed = c.in_ok-land.ensures.leads (Awaited.Goal c.args.merge) c.requires.0 c.requires.1 w agrees in
    let to = targets _ _ _ c.target.ensures c.next-next.ensures in
    let there = appended_there w _ _ c.args.place _ _ (λ q. Skip q) _ _ (ap (λ q. Skip (point (w.at q.0))) to) landed.1 in
    (landed.0, merged w.graph c.args.place (w.at c.args.merge.0) there.0 _ _ there.1 there.2)

pub returns-clause-rest : goal.returns-clause-rest
returns-clause-rest c = under _ _ _ _ c.requires.1 (c.in_ok-land.ensures.rest (Awaited.Goal c.args.merge) c.requires.0 c.requires.1)

pub land-requires : goal.land-requires
land-requires c = (Awaited.Goal c.args.merge, c.requires.0, c.requires.1)
