use Rattle.std.proofs.Common.{refl}
use Rattle.mc_pure_ops.proofs.JoinLemmas.Gaining.{gains_one, gains_none}
use Rattle.mc_pure_ops.proofs.join.gains.put.Goals as goal

pub returns-then-not-allows : goal.returns-then-not-allows
returns-then-not-allows c = gains_none c.args.joint.now c.args.atom.now (c.if-not-allows.ensures.no refl)

pub returns : goal.returns
returns c = gains_one c.args.joint.now c.assume.new.self c.args.atom.now (c.if-not-allows.ensures.yes refl) c.in_ok-assume.ensures.ok
