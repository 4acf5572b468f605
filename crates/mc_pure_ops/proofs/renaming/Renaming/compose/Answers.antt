use Rattle.std.proofs.Common.{◌+◌, None, Some, sym, ◌∙◌, subst, length, ◌≤◌}
use Rattle.mc_base.specs.Nodes.{null}
use Rattle.mc_pure_ops.specs.Renaming.Images.{Images}
use Rattle.mc_pure_ops.proofs.RenamingLemmas.Adding.{Gathers, KeysBelow, both_images, keys_grow, gathers_skip, gathers_add, both_at, all_composed}
use Rattle.mc_pure_ops.proofs.renaming.Renaming.compose.Goals as goal

pub loop-pair-preserved-in_default : goal.loop-pair-preserved-in_default
loop-pair-preserved-in_default c =
    gathers_skip (both_images c.args.self.now c.args.after.now) (KeysBelow c.pairs-pair-items.result.now c.loop-pair.pair-index)
    (KeysBelow c.pairs-pair-items.result.now (c.loop-pair.pair-index + 1)) _ c.loop-pair.both
    (keys_grow c.pairs-pair-items.result.now c.loop-pair.pair-index (null, null) c.loop-pair-test.true)
    (both_at c.pairs-pair-items.result.now c.args.self.now c.args.after.now c.loop-pair.pair-index (null, null) None c.pairs-pair-items.ensures.is c.pairs-pair-items.ensures.rise c.loop-pair-test.true (sym c.get.ensures ∙ c.in_default.is))
    c.loop-pair.invariant

pub loop-pair-preserved : goal.loop-pair-preserved
loop-pair-preserved c =
    gathers_add (both_images c.args.self.now c.args.after.now) (KeysBelow c.pairs-pair-items.result.now c.loop-pair.pair-index)
    (KeysBelow c.pairs-pair-items.result.now (c.loop-pair.pair-index + 1)) _ c.in-Some.end c.loop-pair.both c.add.new.self c.in_ok-add.field-0
    (keys_grow c.pairs-pair-items.result.now c.loop-pair.pair-index (null, null) c.loop-pair-test.true)
    (both_at c.pairs-pair-items.result.now c.args.self.now c.args.after.now c.loop-pair.pair-index (null, null) (Some c.in-Some.end) c.pairs-pair-items.ensures.is c.pairs-pair-items.ensures.rise c.loop-pair-test.true (sym c.get.ensures ∙ c.in-Some.is))
    (record { yes = c.in_ok-add.ensures.yes; no = c.in_ok-add.ensures.no; other = c.in_ok-add.ensures.other })
    c.loop-pair.invariant

pub returns : goal.returns
returns c = all_composed c.args.self.now c.args.after.now c.loop-pair.both c.loop-pair.pair-index
    (subst (λ (z : Images). length z ≤ c.loop-pair.pair-index) c.pairs-pair-items.ensures.is c.loop-pair-test.false)
    (subst (λ (z : Images). Gathers (both_images c.args.self.now c.args.after.now) (KeysBelow z c.loop-pair.pair-index) c.loop-pair.both) c.pairs-pair-items.ensures.is c.loop-pair.invariant)
