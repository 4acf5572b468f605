use Rattle.std.proofs.Common.{◌≡◌, drop}
use Rattle.mc_state.specs.Lists.{all_both}
use Rattle.mc_joins.specs.Chains.Judges.{gets_stuck}
use Rattle.mc_replay.specs.Changes.{states_held, ForTestsOfAll}
use Rattle.mc_replay.proofs.changes.all_get_stuck.Given as goal

abbrev pub invariant-loop-i : goal.invariant-loop-i
invariant-loop-i l =
    ForTestsOfAll l.defs (states_held l.lefts) l.own
    (λ w. all_both (gets_stuck w l.own) (states_held l.lefts) l.tries ≡ all_both (gets_stuck w l.own) (states_held (drop l.i l.lefts)) (drop l.i l.tries))
