use Rattle.std.proofs.Common.{◌<◌, length, sym, ◌∙◌, arith}
use Rattle.mc_rules_logic.specs.Fold.Judges.{is_named}
use Rattle.mc_state.proofs.ListLemmas.{all_both_yes}
use Rattle.mc_apply_fold.proofs.fold.calls.are_args.Goals as goal

pub loop-i-preserved : goal.loop-i-preserved
loop-i-preserved c =
    let v = c.loop-i.invariant in
    let lengths = v.0 in
    let m : c.loop-i.i < length c.args.args.now = omega arith in
    let n : c.loop-i.i < length c.args.nodes.now = omega arith in (
      v.0,
      λ know t. v.1 know t ∙ all_both_yes (is_named know c.args.names.now) c.args.args.now c.args.nodes.now c.loop-i.i _ _ m n (sym (c.if-not-is_named.ensures know t)),
    )
