use Rattle.std.proofs.Common.{◌<◌, length, sym, ◌∙◌, arith}
use Rattle.mc_rules_logic.specs.Fold.Judges.{is_call_at}
use Rattle.mc_apply_fold.proofs.FoldLemmas.Lists.{both_later}
use Rattle.mc_apply_fold.proofs.fold.calls.are_calls.Goals as goal

pub loop-i-preserved : goal.loop-i-preserved
loop-i-preserved c =
    let v = c.loop-i.invariant in
    let lengths = v.0 in
    let m : c.loop-i.i < length c.args.calls.now = omega arith in
    let n : c.loop-i.i < length c.args.ids.now = omega arith in (
      v.0,
      λ know t. v.1 know t ∙ both_later (is_call_at know c.args.s.now.graph.edges c.args.names.now) c.args.calls.now c.args.ids.now c.loop-i.i c.index-calls-i.result _ m n c.index-calls-i.is (sym (c.if-not-is_call_at.ensures know t)),
    )
