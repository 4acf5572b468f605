use Rattle.mc_pure_ops.proofs.JoinLemmas.Gaining.{gains_some_of, gains_none_of}
use Rattle.mc_pure_ops.proofs.join.gains.put_some.Goals as goal

pub returns-in_ok-put-in-Some : goal.returns-in_ok-put-in-Some
returns-in_ok-put-in-Some c = gains_some_of c.in-Some.found c.args.atom c.args.joint.now c.put.new.joint c.in-Some.is c.in_ok-put-in-Some.ensures

pub returns-in-None : goal.returns-in-None
returns-in-None c = gains_none_of c.args.atom c.args.joint.now c.in-None.is
