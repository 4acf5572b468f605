use Rattle.std.proofs.Common.{◌<◌, length, sym, ◌∙◌, arith}
use Rattle.mc_kernel.specs.Judges.{is_known_too}
use Rattle.mc_state.proofs.ListLemmas.{all_both_no, all_both_yes}
use Rattle.mc_check_line.proofs.jump.images.are_known_too.Goals as goal

pub returns-then-not-is_known_too : goal.returns-then-not-is_known_too
returns-then-not-is_known_too c =
    let v = c.loop-i.invariant in
    let lengths = v.0 in
    let m : c.loop-i.i < length c.args.theres.now = omega arith in
    let n : c.loop-i.i < length c.args.heres.now = omega arith in
    λ know t. sym (v.1 know t ∙ all_both_no (is_known_too know c.args.images.now) c.args.theres.now c.args.heres.now c.loop-i.i _ _ m n (sym (c.if-not-is_known_too.ensures know t)))

pub loop-i-preserved : goal.loop-i-preserved
loop-i-preserved c =
    let v = c.loop-i.invariant in
    let lengths = v.0 in
    let m : c.loop-i.i < length c.args.theres.now = omega arith in
    let n : c.loop-i.i < length c.args.heres.now = omega arith in (
      v.0,
      λ know t. v.1 know t ∙ all_both_yes (is_known_too know c.args.images.now) c.args.theres.now c.args.heres.now c.loop-i.i _ _ m n (sym (c.if-not-is_known_too.ensures know t)),
    )
