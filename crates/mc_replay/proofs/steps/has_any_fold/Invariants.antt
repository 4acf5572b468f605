use Rattle.std.proofs.Common.{◌≡◌, ◌-◌, ℕ, Bool, length}
use Rattle.std.specs.List.{list_any, range_with_len}
use Rattle.mc_replay.specs.Joined.{seen}
use Rattle.mc_replay.specs.Steps.{ForTests, has_fold}
use Rattle.mc_replay.proofs.StepLists.{pred_of}
use Rattle.mc_replay.proofs.steps.has_any_fold.Given as goal

abbrev pub invariant-loop-pred : goal.invariant-loop-pred
invariant-loop-pred l =
    ForTests l.defs l.join (λ w.
    let test : ℕ → Bool = λ i. has_fold w (seen l.join) l.pair (pred_of i) in
    list_any test (range_with_len 0 (length l.defs)) ≡ list_any test (range_with_len l.pred (length l.defs - l.pred)))
