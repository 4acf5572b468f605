use Rattle.mc_base.specs.Nodes.{null}
use Rattle.mc_pure.proofs.Changing.{same_node, number}
use Rattle.mc_pure_ops.proofs.CanonLemmas.Single.{lost_class, no_class, null_class, self_class, other_class}
use Rattle.mc_pure_ops.proofs.canon.left.class_atom.Goals as goal

pub returns-then-not-is_left : goal.returns-then-not-is_left
returns-then-not-is_left c = lost_class c.args.pure.now c.args.left.now.lost c.args.node (c.is_left.ensures.no c.if-not-is_left.true)

pub returns-in-None : goal.returns-in-None
returns-in-None c = no_class c.args.pure.now c.args.left.now.lost c.args.node (rw c.in-None.is at c.place.ensures)

pub returns-then-place-eq0 : goal.returns-then-place-eq0
returns-then-place-eq0 c = null_class c.args.pure.now c.args.left.now.lost c.args.node c.requires.not_false c.in-Some.place (rw c.in-Some.is at c.place.ensures) (same_node c.in-Some.place.least null c.if-place-eq0.true)

pub returns-then-place-node : goal.returns-then-place-node
returns-then-place-node c = self_class c.args.pure.now c.args.left.now.lost c.args.node c.requires.not_false c.in-Some.place (rw c.in-Some.is at c.place.ensures) (same_node c.in-Some.place.least c.args.node c.if-place-node.true)

pub returns-else-place-node : goal.returns-else-place-node
returns-else-place-node c = other_class c.args.pure.now c.args.left.now.lost c.args.node c.requires.not_false c.in-Some.place (rw c.in-Some.is at c.place.ensures) c.equality_of.result (λ e. c.if-place-eq0.false (number e)) (λ e. c.if-place-node.false (number e)) c.requires.there (c.is_left.ensures.yes c.if-not-is_left.false) c.equality_of.ensures
