use Rattle.std.proofs.Common.{◌∙◌, ap, arith}
use Rattle.mc_gen.specs.Texts.{kind_of}
use Rattle.mc_gen.proofs.Drawing.{kinds_more, left_more}
use Rattle.mc_gen.proofs.programs.draw_kinds.Goals as goal

pub loop-preserved : goal.loop-preserved
loop-preserved c =
    let kind = c.of_number.ensures ∙ ap kind_of c.drawn.ensures.value in
    record {
      kinds = kinds_more c.args.count c.loop.counter c.loop.x c.next_of.result c.loop.kinds.items c.push.new.self.items _ c.of_number.result c.loop-test.true c.next_of.ensures kind
          c.in_ok-push.ensures.items c.loop.invariant.kinds;
      left = left_more c.args.count c.loop.counter c.loop.x c.next_of.result _ c.loop-test.true c.next_of.ensures c.loop.invariant.left;
      within = omega arith;
    }
