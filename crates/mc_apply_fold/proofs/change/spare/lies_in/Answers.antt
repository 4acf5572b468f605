use Rattle.std.specs.Prelude.{◌-ℤ◌}
use Rattle.mc_base.specs.declared.plain.Atom.TheVariants.{In}
use Rattle.mc_rules_logic.specs.Fold.ChangeJudges.{lies_in}
use Rattle.mc_pure.specs.Derived.{LiesIn}
use Rattle.mc_pure.specs.Pure.{high_of, low_of}
use Rattle.mc_state.specs.State.{pure_of}
use Rattle.mc_apply_fold.proofs.ChangeLemmas.Naming.{one_test}
use Rattle.mc_apply_fold.proofs.ChangeLemmas.Spared.{lies_told}
use Rattle.mc_apply_fold.proofs.change.spare.lies_in.Goals as goal

pub returns-clause-derived : goal.returns-clause-derived
returns-clause-derived c =
    let r = c.args.rule.now in
    let t = c.term_of-term in
    let k = c.known-known in
    lies_told k.result.now c.args.s.now r.kind r.node t.result.node r.add t.result.add c.low_of-low.result c.high_of-high.result c.lies_in.result k.ensures.follows k.ensures.is_false
    t.ensures.node t.ensures.add c.low_of-low.ensures c.high_of-high.ensures c.lies_in.ensures

pub returns-clause-told : goal.returns-clause-told
returns-clause-told c = λ know tells.
    let r = c.args.rule.now in
    let t = c.term_of-term in
    let k = c.known-known in
    let derived =
    lies_told k.result.now c.args.s.now r.kind r.node t.result.node r.add t.result.add c.low_of-low.result c.high_of-high.result c.lies_in.result k.ensures.follows k.ensures.is_false
    t.ensures.node t.ensures.add c.low_of-low.ensures c.high_of-high.ensures c.lies_in.ensures in
    one_test (LiesIn (pure_of c.args.s.now) r.kind r.node r.add) c.lies_in.result (lies_in know r.kind r.node r.add) derived (tells (In r.node (low_of r.kind -ℤ r.add) (high_of r.kind -ℤ r.add)))
