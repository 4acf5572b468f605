use Rattle.std.proofs.Common.{◌≡◌, true, false, refl}
use Rattle.mc_joins.proofs.AlikeLemmas.Tidiness.{none_merges, tells_tidy}
use Rattle.mc_joins.proofs.alike.tidy.is_tidy.Goals as goal

pub returns-then-is_false : goal.returns-then-is_false
returns-then-is_false c = (λ t. let w : false ≡ true = t in absurd (cc w), λ tidy. absurd (tidy.consistent (c.if-is_false.ensures.derived.0 refl)))

pub returns-then-not-none_merges : goal.returns-then-not-none_merges
returns-then-not-none_merges c = (
  λ t. let w : false ≡ true = t in absurd (cc w),
  λ tidy. let w : false ≡ true = c.if-not-none_merges.ensures.1 (none_merges c.args.state.now tidy) in absurd (cc w),
)

pub returns : goal.returns
returns c = tells_tidy c.args.state.now c.all_reached.result (λ f. let w : false ≡ true = c.if-is_false.ensures.derived.1 f in absurd (cc w)) (c.if-not-none_merges.ensures.0 refl) c.all_reached.ensures
