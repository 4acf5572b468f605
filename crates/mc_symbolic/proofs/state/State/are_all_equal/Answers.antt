use Rattle.std.proofs.Common.{◌≡◌, ◌<◌, length, true, false, refl, sym, ◌∙◌, arith}
use Rattle.mc_base.specs.Nodes.{null}
use Rattle.mc_state.specs.Known.{equal}
use Rattle.mc_state.proofs.ListLemmas.{all_both_yes}
use Rattle.mc_symbolic.proofs.Kept.{lengths_equal, equal_at, equal_before}
use Rattle.mc_symbolic.proofs.state.State.are_all_equal.Goals as goal

pub returns-then-xs-ys-clause-derived : goal.returns-then-xs-ys-clause-derived
returns-then-xs-ys-clause-derived c = ((λ t. let w : false ≡ true = t in absurd (cc w)), (λ a. let e = lengths_equal c.args.self.now c.args.xs.now c.args.ys.now a in absurd (omega arith)))

pub returns-then-not-are_equal-clause-derived : goal.returns-then-not-are_equal-clause-derived
returns-then-not-are_equal-clause-derived c =
    let v = c.loop-i.invariant in
    let l = v.lengths in
    let m : c.loop-i.i < length c.args.xs.now = omega arith in
    let n : c.loop-i.i < length c.args.ys.now = omega arith in
    ((λ t. let w : false ≡ true = t in absurd (cc w)), (λ a. c.if-not-are_equal.ensures.derived.1 (equal_at c.args.self.now c.args.xs.now c.args.ys.now c.loop-i.i _ _ m n (v.back a)).0))

pub loop-i-preserved : goal.loop-i-preserved
loop-i-preserved c =
    let v = c.loop-i.invariant in
    let l = v.lengths in
    let m : c.loop-i.i < length c.args.xs.now = omega arith in
    let n : c.loop-i.i < length c.args.ys.now = omega arith in
    record {
      told = λ know t. v.told know t ∙ all_both_yes (equal know) c.args.xs.now c.args.ys.now c.loop-i.i _ _ m n (sym (c.if-not-are_equal.ensures.told know t));
      lengths = v.lengths;
      forth = λ a. v.forth (equal_before c.args.self.now c.args.xs.now c.args.ys.now c.loop-i.i _ _ m n (c.if-not-are_equal.ensures.derived.0 refl) a);
      back = λ a. (equal_at c.args.self.now c.args.xs.now c.args.ys.now c.loop-i.i null null m n (v.back a)).1;
    }
