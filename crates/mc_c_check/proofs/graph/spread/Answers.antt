use Rattle.std.proofs.Common.{◌<◌, ◌-◌, length, get_or, arith}
use Rattle.std.specs.Prelude.{Contains}
use Rattle.mc_c_check.specs.declared.graph.Edge.{Edge}
use Rattle.mc_c_check.proofs.Graphs.{never, mark_kept, mark_less, mark_sound}
use Rattle.mc_c_check.proofs.Members.{contains_got}
use Rattle.mc_c_check.proofs.graph.spread.Goals as goal

pub loop-left-preserved-then-not-marks-edge : goal.loop-left-preserved-then-not-marks-edge
loop-left-preserved-then-not-marks-edge c =
    let none : Edge = record { caller = 0; callee = 0; place = record { line = 0; column = 0 } } in
    let at : Edge = get_or c.args.edges.now (c.loop-left.left - 1) none in
    let within : c.loop-left.left - 1 < length c.args.edges.now = (let all = c.loop-left.invariant.within in omega arith) in
    let below : at.callee < length c.loop-left.marks = (let both = c.requires (c.loop-left.left - 1) none within in omega (arith, both.1)) in
    let made : Contains c.args.edges.now at = contains_got c.args.edges.now (c.loop-left.left - 1) none within in
    let one = mark_less c.loop-left.marks at.callee below c.if-not-marks-edge.true in
    record {
      within = omega arith;
      sound = λ from begun. mark_sound c.args.edges.now from c.loop-left.marks at made c.if-marks-edge.true (c.loop-left.invariant.sound from begun);
      kept = λ n h. mark_kept c.loop-left.marks at.callee n below (c.loop-left.invariant.kept n h);
      closed = λ e. never e;
      fewer = (let all = c.loop-left.invariant.fewer in omega arith);
      less = λ e. (let all = c.loop-left.invariant.fewer in omega arith);
    }
