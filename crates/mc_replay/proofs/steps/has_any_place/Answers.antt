use Rattle.std.proofs.Common.{◌<◌, ◌≤◌, ℕ, Bool, length, sym, ◌∙◌, arith}
use Rattle.mc_replay.specs.Joined.{seen}
use Rattle.mc_replay.specs.Steps.{has_seg}
use Rattle.mc_replay.proofs.StepLists.{any_next, any_here, any_end, any_on, ending_on}
use Rattle.mc_replay.proofs.steps.has_any_place.Goals as goal

pub returns-then-branch : goal.returns-then-branch
returns-then-branch c = λ w same t.
    let j = seen c.args.join.now in
    let test : ℕ → Bool = λ place. has_seg c.args.step w j c.args.pair.now (ending_on c.args.pred c.args.side place) in
    let n = length c.args.join.now.pairs.items in
    let i = c.loop-place.place in
    let l : i < n = omega (arith, c.args.join.now.pairs.ok.0) in
    sym (any_on (has_seg c.args.step w j c.args.pair.now) j c.args.pred c.args.side
    ∙ (c.loop-place.invariant w same t ∙ any_here test n i l (sym (c.in_ok-has_seg.ensures w same t) ∙ c.if-branch.true)))

pub loop-place-preserved : goal.loop-place-preserved
loop-place-preserved c = λ w same t.
    let j = seen c.args.join.now in
    let test : ℕ → Bool = λ place. has_seg c.args.step w j c.args.pair.now (ending_on c.args.pred c.args.side place) in
    let n = length c.args.join.now.pairs.items in
    let i = c.loop-place.place in
    let l : i < n = omega (arith, c.args.join.now.pairs.ok.0) in
    c.loop-place.invariant w same t ∙ any_next test n i l (sym (c.in_ok-has_seg.ensures w same t) ∙ c.if-branch.false)

pub returns : goal.returns
returns c = λ w same t.
    let j = seen c.args.join.now in
    let test : ℕ → Bool = λ place. has_seg c.args.step w j c.args.pair.now (ending_on c.args.pred c.args.side place) in
    let n = length c.args.join.now.pairs.items in
    let i = c.loop-place.place in
    let l : n ≤ i = omega (arith, c.args.join.now.pairs.ok.0) in
    sym (any_on (has_seg c.args.step w j c.args.pair.now) j c.args.pred c.args.side ∙ (c.loop-place.invariant w same t ∙ any_end test n i l))
