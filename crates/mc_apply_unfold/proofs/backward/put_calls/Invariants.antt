use Rattle.std.proofs.Common.{◌≡◌, ◌++◌, drop, map}
use Rattle.mc_rules_logic.specs.Back.Unfolded.{unfolded_back}
use Rattle.mc_rules_logic.specs.Unfold.Unfolded.{own_places}
use Rattle.mc_apply_unfold.proofs.backward.put_calls.Given as goal

abbrev pub invariant-loop-place : goal.invariant-loop-place
invariant-loop-place l =
    l.next.items ++ map (unfolded_back l.s l.edge l.seg.at l.seg.args.now l.seg.pred l.seg.stop l.seg.ends.now l.rule) (own_places l.seg.pred l.place (drop l.place l.calls))
    ≡ l.fn.next.items ++ map (unfolded_back l.s l.edge l.seg.at l.seg.args.now l.seg.pred l.seg.stop l.seg.ends.now l.rule) (own_places l.seg.pred 0 l.calls)
