use Rattle.std.proofs.Common.{◌<◌, ◌≤◌, ℕ, Bool, length, sym, ◌∙◌}
use Rattle.mc_replay.specs.Joined.{seen}
use Rattle.mc_replay.specs.Steps.{has_fold}
use Rattle.mc_replay.proofs.StepLists.{any_next, any_here, any_end, any_pred, pred_of}
use Rattle.mc_replay.proofs.steps.has_any_fold.Goals as goal

pub returns-then-branch : goal.returns-then-branch
returns-then-branch c = λ w same t.
    let j = seen c.args.join.now in
    let test : ℕ → Bool = λ i. has_fold w j c.args.pair.now (pred_of i) in
    let n = length c.args.defs.now in
    let i = c.loop-pred.pred in
    let l : i < n = rw c.as_slice-pred-end.ensures.same at c.loop-pred-test.true in
    sym (any_pred w c.args.defs.now same (has_fold w j c.args.pair.now)
    ∙ (c.loop-pred.invariant w same t ∙ any_here test n i l (sym (c.in_ok-has_fold.ensures w same t) ∙ c.if-branch.true)))

pub loop-pred-preserved : goal.loop-pred-preserved
loop-pred-preserved c = λ w same t.
    let j = seen c.args.join.now in
    let test : ℕ → Bool = λ i. has_fold w j c.args.pair.now (pred_of i) in
    let n = length c.args.defs.now in
    let i = c.loop-pred.pred in
    let l : i < n = rw c.as_slice-pred-end.ensures.same at c.loop-pred-test.true in
    c.loop-pred.invariant w same t ∙ any_next test n i l (sym (c.in_ok-has_fold.ensures w same t) ∙ c.if-branch.false)

pub returns : goal.returns
returns c = λ w same t.
    let j = seen c.args.join.now in
    let test : ℕ → Bool = λ i. has_fold w j c.args.pair.now (pred_of i) in
    let n = length c.args.defs.now in
    let i = c.loop-pred.pred in
    let l : n ≤ i = rw c.as_slice-pred-end.ensures.same at c.loop-pred-test.false in
    sym (any_pred w c.args.defs.now same (has_fold w j c.args.pair.now)
    ∙ (c.loop-pred.invariant w same t ∙ any_end test n i l))
