use Rattle.std.proofs.Common.{◌++◌, ◌-◌, ◌≤◌, ap, sym, ◌∙◌, arith, take, drop, length}
use Rattle.std.proofs.Math.Seq.{take-add}
use Rattle.std.proofs.lemmas.List.{take_all}
use Rattle.mc_load.proofs.InputsLemmas.Causes.{still}
use Rattle.mc_load.proofs.inputs.contents.read_on.Goals as goal

pub loop-at-preserved : goal.loop-at-preserved
loop-at-preserved g c = record {
  told = λ bytes h.
      c.in_ok-n.ensures.told bytes (c.loop-at.invariant.same c.args.name.now ∙ h)
      ∙ ap (λ front. front ++ take c.in_ok-n.n (drop c.loop-at.at bytes)) (c.loop-at.invariant.told bytes h)
      ∙ sym (take-add c.loop-at.at c.in_ok-n.n bytes);
  within = λ bytes h.
      let before : c.loop-at.at ≤ length bytes = c.loop-at.invariant.within bytes h in
      let more : c.in_ok-n.n ≤ length bytes - c.loop-at.at = c.in_ok-n.ensures.within bytes (c.loop-at.invariant.same c.args.name.now ∙ h) in
      omega arith;
  len = let before = c.loop-at.invariant.len in let more = c.in_ok-n.ensures.len in omega arith;
  no_further = c.in_ok-n.ensures.bound;
  same = λ name. c.next_piece.ensures.same name ∙ c.loop-at.invariant.same name;
  count = still c.in_ok-n.n _ _ c.in_ok-n.ensures.cause ∙ c.loop-at.invariant.count;
}

pub returns-clause-told : goal.returns-clause-told
returns-clause-told g c = λ bytes h e.
    c.loop-at.invariant.told bytes h ∙ take_all c.loop-at.at bytes (let past = c.loop-at-test.false in omega arith)
