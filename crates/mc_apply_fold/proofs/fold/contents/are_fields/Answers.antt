use Rattle.std.proofs.Common.{◌<◌, length, sym, ◌∙◌, arith}
use Rattle.mc_rules_logic.specs.Fold.Judges.{is_named_too}
use Rattle.mc_state.proofs.ListLemmas.{all_both_no, all_both_yes}
use Rattle.mc_apply_fold.proofs.fold.contents.are_fields.Goals as goal

pub returns-then-not-is_named_too : goal.returns-then-not-is_named_too
returns-then-not-is_named_too c =
    let v = c.loop-i.invariant in
    let lengths = v.0 in
    let m : c.loop-i.i < length c.args.contents.now = omega arith in
    let n : c.loop-i.i < length c.args.fields.now = omega arith in
    λ know t. sym (v.1 know t ∙ all_both_no (is_named_too know c.args.names.now) c.args.contents.now c.args.fields.now c.loop-i.i _ _ m n (sym (c.if-not-is_named_too.ensures know t)))

pub loop-i-preserved : goal.loop-i-preserved
loop-i-preserved c =
    let v = c.loop-i.invariant in
    let lengths = v.0 in
    let m : c.loop-i.i < length c.args.contents.now = omega arith in
    let n : c.loop-i.i < length c.args.fields.now = omega arith in (
      v.0,
      λ know t. v.1 know t ∙ all_both_yes (is_named_too know c.args.names.now) c.args.contents.now c.args.fields.now c.loop-i.i _ _ m n (sym (c.if-not-is_named_too.ensures know t)),
    )
