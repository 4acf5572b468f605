use Rattle.mc_pure_ops.proofs.CanonLemmas.Lists.{put_added}
use Rattle.mc_pure_ops.proofs.canon.order.put_in.Goals as goal

pub returns-in_ok-insert-in-At : goal.returns-in_ok-insert-in-At
returns-in_ok-insert-in-At c =
    let k = rw c.deref.ensures.value at c.in-At.ensures in
    let e = c.in_ok-insert-in-At.ensures.items in
    rw e (put_added c.args.list.now.items c.in-At.place c.args.atom k.0 k.1 k.2)
