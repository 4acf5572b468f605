use Rattle.std.proofs.Common.{◌≡◌, ◌-◌, ℕ, Bool, length}
use Rattle.std.specs.List.{list_any, range_with_len}
use Rattle.mc_replay.specs.Joined.{seen}
use Rattle.mc_replay.specs.Steps.{ForTests, has_seg}
use Rattle.mc_replay.proofs.StepLists.{ending_on}
use Rattle.mc_replay.proofs.steps.has_any_place.Given as goal

abbrev pub invariant-loop-place : goal.invariant-loop-place
invariant-loop-place l =
    ForTests l.defs l.join (λ w.
    let test : ℕ → Bool = λ place. has_seg l.step w (seen l.join) l.pair (ending_on l.pred l.side place) in
    list_any test (range_with_len 0 (length l.join.pairs.items)) ≡ list_any test (range_with_len l.place (length l.join.pairs.items - l.place)))
