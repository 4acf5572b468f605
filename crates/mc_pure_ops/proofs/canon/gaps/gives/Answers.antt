use Rattle.std.proofs.Common.{◌≡◌, sym, refl}
use Rattle.mc_pure_ops.proofs.CanonLemmas.Moving.{gives_first, gives_second}
use Rattle.mc_pure_ops.proofs.canon.gaps.gives.Goals as goal

pub returns-in-Some : goal.returns-in-Some
returns-in-Some c = gives_first c.args.pure.now c.args.starts.now c.args.inside c.args.gap.now c.in-Some.atom (rw c.in-Some.is at c.shown.ensures)

pub returns-in-None : goal.returns-in-None
returns-in-None c = gives_second c.args.pure.now c.args.starts.now c.args.inside c.args.gap.now c.turned.result c.shown-in-None.result c.turned.ensures.left c.turned.ensures.right c.turned.ensures.by (rw c.in-None.is at c.shown.ensures) c.shown-in-None.ensures
