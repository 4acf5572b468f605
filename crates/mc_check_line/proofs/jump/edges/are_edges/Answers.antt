use Rattle.std.proofs.Common.{◌<◌, length, sym, ◌∙◌, arith}
use Rattle.mc_kernel.specs.Judges.{is_edge_at}
use Rattle.mc_apply_fold.proofs.FoldLemmas.Lists.{both_later}
use Rattle.mc_check_line.proofs.jump.edges.are_edges.Goals as goal

pub loop-i-preserved : goal.loop-i-preserved
loop-i-preserved c =
    let v = c.loop-i.invariant in
    let lengths = v.0 in
    let m : c.loop-i.i < length c.args.theres.now = omega arith in
    let n : c.loop-i.i < length c.args.ids.now = omega arith in (
      v.0,
      λ know t. v.1 know t ∙ both_later (is_edge_at know c.args.s.now.graph.edges c.args.images.now) c.args.theres.now c.args.ids.now c.loop-i.i c.index-theres-i.result _ m n c.index-theres-i.is (sym (c.if-not-is_edge_at.ensures know t)),
    )
