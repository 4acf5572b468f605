use Rattle.std.proofs.Common.{refl}
use Rattle.mc_pure_ops.proofs.CanonLemmas.Taken.{listed_at}
use Rattle.mc_pure_ops.proofs.CanonLemmas.Heirs.{next_below, is_left_out}
use Rattle.mc_pure_ops.proofs.canon.forgetting.without.Goals as goal

pub next_heir-heir-requires-clause-there : goal.next_heir-heir-requires-clause-there
next_heir-heir-requires-clause-there c = listed_at c.args.pure.now c.nodes-other-items.result.now c.loop-other.other-index _ c.nodes-other-items.ensures c.loop-other-test.true

pub loop-other-preserved : goal.loop-other-preserved
loop-other-preserved c = next_below c.args.pure.now c.args.lost c.nodes-other-items.result.now c.loop-other.other-index _ c.loop-other.heir c.next_heir-heir.result c.loop-other-test.true c.loop-other.invariant c.next_heir-heir.ensures

pub returns-clause-heir : goal.returns-clause-heir
returns-clause-heir c = is_left_out c.normal_forms_say_all.ensures c.args.pure.now c.has_normal_form.ensures c.args.lost _ c.nodes-other-items.result.now c.loop-other.other-index c.loop-other.heir refl c.nodes-other-items.ensures c.loop-other-test.false c.requires.there c.requires.not_null c.loop-other.invariant
