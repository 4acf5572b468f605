use Rattle.std.proofs.Common.{sym, refl}
use Rattle.mc_base.specs.Nodes.{null}
use Rattle.mc_pure.proofs.Changing.{same_node, number}
use Rattle.mc_pure_ops.proofs.CanonLemmas.Single.{null_range, lost_range, no_kind_range, wide_range, narrow_range}
use Rattle.mc_pure_ops.proofs.canon.left.range_atom.Goals as goal

pub returns-then-node-eq0 : goal.returns-then-node-eq0
returns-then-node-eq0 c = null_range c.args.pure.now c.args.left.now.lost c.args.node (same_node c.args.node null c.if-node-eq0.true)

pub returns-then-not-is_left : goal.returns-then-not-is_left
returns-then-not-is_left c = lost_range c.args.pure.now c.args.left.now.lost c.args.node (c.is_left.ensures.no c.if-not-is_left.true)

pub returns-in-None : goal.returns-in-None
returns-in-None c = no_kind_range c.args.pure.now c.args.left.now.lost c.args.node (rw c.in-None.is at (sym c.kind.ensures))

pub returns-else-is_narrower : goal.returns-else-is_narrower
returns-else-is_narrower c = wide_range c.args.pure.now c.args.left.now.lost c.args.node c.requires.not_false _ _ c.in-Some.kind c.range-range.ensures (rw c.in-Some.is at (sym c.kind.ensures)) (c.if-is_narrower.ensures.no refl)

pub returns-then-is_narrower : goal.returns-then-is_narrower
returns-then-is_narrower c = narrow_range c.args.pure.now c.args.left.now.lost c.args.node c.requires.not_false _ _ c.in-Some.kind c.range_of.result (λ e. c.if-node-eq0.false (number e)) (c.is_left.ensures.yes c.if-not-is_left.false) c.range-range.ensures (rw c.in-Some.is at (sym c.kind.ensures)) (c.if-is_narrower.ensures.yes refl) c.range_of.ensures
