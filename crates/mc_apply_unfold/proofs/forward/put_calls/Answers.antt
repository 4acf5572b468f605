use Rattle.std.proofs.Common.{◌<◌, arith, length}
use Rattle.mc_rules_logic.specs.Unfold.Unfolded.{unfolded_at}
use Rattle.mc_apply_unfold.proofs.Items.{own_put}
use Rattle.mc_apply_unfold.proofs.forward.put_calls.Goals as goal

pub loop-place-preserved : goal.loop-place-preserved
loop-place-preserved c =
    let seg = c.args.seg.now in
    let calls = c.args.calls.now in
    let inside : c.loop-place.place < length calls = omega arith in
    own_put (unfolded_at c.args.s.now c.args.edge seg.at seg.args.now seg.stop seg.ends.now c.args.rule.now) seg.pred calls c.loop-place.place c.index-calls-place.result
    c.loop-place.next.items c.put_call.new.next.items _ inside c.index-calls-place.is c.in_ok-put_call.ensures c.loop-place.invariant
