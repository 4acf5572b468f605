use Rattle.std.proofs.Common.{◌≡◌, ◌<◌, ◌∙◌, Some, ap, arith, length, slice_get}
use Rattle.mc_rules_logic.specs.Back.Unfolded.{unfolded_back}
use Rattle.mc_apply_unfold.proofs.Items.{found_here, own_put}
use Rattle.mc_apply_unfold.proofs.backward.put_calls.Goals as goal

pub put_call-requires : goal.put_call-requires
put_call-requires c =
    let calls = c.args.calls.now in
    let i = c.loop-place.place in
    let within : i < length calls = omega arith in
    let count : length c.args.rule.now.calls ≡ length calls = ap length c.requires.calls in
    let there : slice_get c.args.rule.now.calls i ≡ Some c.index-calls-place.result =
    ap (λ cs. slice_get cs i) c.requires.calls ∙ found_here calls i c.index-calls-place.result within c.index-calls-place.is in
    record { rule = c.requires.rule; call = there; inside = omega arith }

pub loop-place-preserved : goal.loop-place-preserved
loop-place-preserved c =
    let seg = c.args.seg.now in
    let calls = c.args.calls.now in
    let inside : c.loop-place.place < length calls = omega arith in
    own_put (unfolded_back c.args.s.now c.args.edge seg.at seg.args.now seg.pred seg.stop seg.ends.now c.args.rule.now) seg.pred calls c.loop-place.place c.index-calls-place.result
    c.loop-place.next.items c.put_call.new.next.items _ inside c.index-calls-place.is c.in_ok-put_call.ensures c.loop-place.invariant
