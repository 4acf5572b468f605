use Rattle.std.proofs.Common.{◌≡◌, ◌++◌, drop, map}
use Rattle.mc_rules_logic.specs.Unfold.Unfolded.{unfolded_at, own_places}
use Rattle.mc_apply_unfold.proofs.forward.put_calls.Given as goal

abbrev pub invariant-loop-place : goal.invariant-loop-place
invariant-loop-place l =
    l.next.items ++ map (unfolded_at l.s l.edge l.seg.at l.seg.args.now l.seg.stop l.seg.ends.now l.rule) (own_places l.seg.pred l.place (drop l.place l.calls))
    ≡ l.fn.next.items ++ map (unfolded_at l.s l.edge l.seg.at l.seg.args.now l.seg.stop l.seg.ends.now l.rule) (own_places l.seg.pred 0 l.calls)
