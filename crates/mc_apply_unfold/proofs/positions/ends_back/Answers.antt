use Rattle.std.proofs.Common.{◌<◌, ◌∙◌, arith, length}
use Rattle.mc_apply_unfold.proofs.Ends.{ends_here, ends_later}
use Rattle.mc_apply_unfold.proofs.positions.ends_back.Goals as goal

pub returns-then-is_end_back : goal.returns-then-is_end_back
returns-then-is_end_back c = λ know t.
    let inside : c.loop-i.i < length c.args.ends.now = omega arith in
    ends_here know c.args.defs.now c.args.pred c.args.node c.args.ends.now c.loop-i.i _ inside (c.if-is_end_back.ensures know t) ∙ c.loop-i.invariant know t

pub loop-i-preserved : goal.loop-i-preserved
loop-i-preserved c = λ know t.
    let inside : c.loop-i.i < length c.args.ends.now = omega arith in
    ends_later know c.args.defs.now c.args.pred c.args.node c.args.ends.now c.loop-i.i _ inside (c.if-is_end_back.ensures know t) ∙ c.loop-i.invariant know t
