use Rattle.std.proofs.Common.{◌<◌, length, arith}
use Rattle.mc_joins.proofs.AlikeLemmas.Links.{linked_more, linked_all}
use Rattle.mc_joins.proofs.alike.same.linked.Goals as goal

pub loop-i-preserved : goal.loop-i-preserved
loop-i-preserved c =
    let l : c.loop-i.i < length c.args.from.now = omega arith in
    let m : c.loop-i.i < length c.args.to.now = omega arith in
    linked_more c.args.from.now c.args.to.now c.loop-i.i _ _ l m c.loop-i.links c.add.new.self c.in_ok-add.field-0
    c.in_ok-add.ensures.yes c.in_ok-add.ensures.no c.in_ok-add.ensures.other c.loop-i.invariant

pub returns : goal.returns
returns c = linked_all c.args.from.now c.args.to.now c.loop-i.i c.loop-i.links (omega arith) c.loop-i.invariant
