use Rattle.std.proofs.Common.{◌<◌, length, get_or, arith}
use Rattle.std.specs.Prelude.{Contains}
use Rattle.mc_c_check.specs.declared.graph.Edge.{Edge}
use Rattle.mc_c_check.proofs.Graphs.{mark_kept, mark_sound}
use Rattle.mc_c_check.proofs.Members.{contains_got}
use Rattle.mc_c_check.proofs.graph.spread_one.Goals as goal

pub returns : goal.returns
returns c =
    let none : Edge = record { caller = 0; callee = 0; place = record { line = 0; column = 0 } } in
    let within : c.args.call < length c.args.edges.now = omega arith in
    let at : Edge = get_or c.args.edges.now c.args.call none in
    let below : at.callee < length c.args.marks.now = (let both = c.requires c.args.call none within in omega (arith, both.1)) in
    let made : Contains c.args.edges.now at = contains_got c.args.edges.now c.args.call none within in
    record {
      sound = λ from begun. mark_sound c.args.edges.now from c.args.marks.now at made c.if-not-marks-edge.false begun;
      kept = λ n h. mark_kept c.args.marks.now at.callee n below h;
    }
