use Rattle.std.proofs.Common.{sym}
use Rattle.mc_lower.proofs.Ways.{walk_none, walk_more}
use Rattle.mc_lower.proofs.settling.walk.Goals as goal

pub loop-init : goal.loop-init
loop-init c = walk_none _ _ _ c.requires.none c.requires.empty

pub loop-preserved : goal.loop-preserved
loop-preserved c =
    let is = rw c.as_slice.ensures.value at c.in-On.ensures in
    walk_more c.loop.invariant c.in-On.other (sym is) _ _ c.set_way.ensures c.in_ok-push-in-On.ensures.items
