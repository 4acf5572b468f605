use Rattle.std.proofs.Common.{◌≤◌, length, subst}
use Rattle.mc_base.specs.Nodes.{null}
use Rattle.mc_pure_ops.specs.Renaming.Images.{Images}
use Rattle.mc_pure_ops.proofs.RenamingLemmas.Adding.{Turns, turns_more, clashes, all_turned}
use Rattle.mc_pure_ops.proofs.renaming.Renaming.inverse.Goals as goal

pub returns-then-not-branch-clause-none : goal.returns-then-not-branch-clause-none
returns-then-not-branch-clause-none c = λ e h.
    clashes c.pairs-pair-items.result.now c.loop-pair.pair-index (null, null) c.loop-pair.back c.add.new.self c.in_ok-add.field-0
    (rw c.pairs-pair-items.ensures.is c.pairs-pair-items.ensures.rise) c.loop-pair-test.true
    (record { yes = c.in_ok-add.ensures.yes; no = c.in_ok-add.ensures.no; other = c.in_ok-add.ensures.other }) c.if-not-branch.true
    c.loop-pair.invariant
    (rw c.pairs-pair-items.ensures.is h)

pub loop-pair-preserved : goal.loop-pair-preserved
loop-pair-preserved c =
    turns_more c.pairs-pair-items.result.now c.loop-pair.pair-index (null, null) c.loop-pair.back c.add.new.self c.in_ok-add.field-0
    (rw c.pairs-pair-items.ensures.is c.pairs-pair-items.ensures.rise) c.loop-pair-test.true
    (record { yes = c.in_ok-add.ensures.yes; no = c.in_ok-add.ensures.no; other = c.in_ok-add.ensures.other }) c.if-not-branch.false
    c.loop-pair.invariant

pub returns-clause-back : goal.returns-clause-back
returns-clause-back c = all_turned c.args.self.now c.loop-pair.back c.loop-pair.pair-index
    (subst (λ (z : Images). length z ≤ c.loop-pair.pair-index) c.pairs-pair-items.ensures.is c.loop-pair-test.false)
    (subst (λ (z : Images). Turns z c.loop-pair.pair-index c.loop-pair.back) c.pairs-pair-items.ensures.is c.loop-pair.invariant)
