use Rattle.mc_base.specs.Nodes.{null}
use Rattle.mc_pure_ops.proofs.JoinLemmas.Pairing.{one_kind_at, one_more, all_joinable}
use Rattle.mc_pure_ops.proofs.join.joinable.are_joinable.Goals as goal

pub returns-then-not-have_one_kind-clause-no : goal.returns-then-not-have_one_kind-clause-no
returns-then-not-have_one_kind-clause-no c = λ e j. c.have_one_kind.ensures.no c.if-not-have_one_kind.true (one_kind_at c.args.left.now c.args.right.now c.args.pairs.now c.loop-i.i (null, null) j c.loop-i-test.true)

pub loop-i-preserved : goal.loop-i-preserved
loop-i-preserved c = one_more c.args.left.now c.args.right.now c.args.pairs.now c.loop-i.i (null, null) c.loop-i-test.true (c.have_one_kind.ensures.yes c.if-not-have_one_kind.false) c.loop-i.invariant

pub returns-clause-yes : goal.returns-clause-yes
returns-clause-yes c = λ e. all_joinable c.args.left.now c.args.right.now c.args.pairs.now c.loop-i.i c.loop-i-test.false (c.begin_with_null.ensures.yes c.if-not-begin_with_null.false) c.loop-i.invariant
