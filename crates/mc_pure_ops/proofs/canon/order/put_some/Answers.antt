use Rattle.mc_pure_ops.proofs.canon.order.put_some.Goals as goal

pub returns-in-Some : goal.returns-in-Some
returns-in-Some c = rw c.in-Some.is c.put_in.ensures
