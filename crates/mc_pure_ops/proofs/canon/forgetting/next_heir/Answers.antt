use Rattle.mc_pure.proofs.Changing.{same_node, number}
use Rattle.mc_pure_ops.proofs.CanonLemmas.Heirs.{heir_same, heir_other}
use Rattle.mc_pure_ops.proofs.canon.forgetting.next_heir.Goals as goal

pub returns-then-other-lost : goal.returns-then-other-lost
returns-then-other-lost c = heir_same c.args.pure.now c.args.lost c.args.other (same_node c.args.other c.args.lost c.if-other-lost.true) c.args.heir

pub returns-then-place-lost : goal.returns-then-place-lost
returns-then-place-lost c = heir_other c.args.pure.now c.args.lost c.args.other c.requires.not_false c.class_of-place.result c.class_of-place.ensures.least c.class_of-place.ensures.equal (λ e. c.if-place-lost.true (number e)) c.args.heir
