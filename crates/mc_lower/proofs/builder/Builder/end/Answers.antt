use Rattle.mc_lower.specs.declared.lines.Awaited.{Awaited}
use Rattle.mc_lower.proofs.Agreeing.{out_label}
use Rattle.mc_lower.proofs.Entering.{ended_at}
use Rattle.mc_lower.proofs.Waiting.{alone_waits}
use Rattle.mc_lower.proofs.builder.Builder.end.Goals as goal

pub returns : goal.returns
returns c = λ w agrees.
    let old = c.args.self.now in
    let i = c.args.occurrence in
    let alone = alone_waits _ _ c.requires.waits in
    let landed = c.in_ok-land.ensures.leads (Awaited.Out i) alone.0 alone.1 w agrees in
    (landed.0, ended_at w (w.out i) _ _ _ _ (out_label w old i c.requires.occurs landed.0) landed.1)

pub land-requires : goal.land-requires
land-requires c = let alone = alone_waits _ _ c.requires.waits in (Awaited.Out c.args.occurrence, alone.0, alone.1)
