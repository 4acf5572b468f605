use Rattle.std.proofs.Common.{◌≡◌, inl}
use Rattle.mc_pure_ops.proofs.CanonLemmas.Lists.{if_ok}
use Rattle.mc_pure_ops.proofs.CanonLemmas.Taken.{starts_there}
use Rattle.mc_pure_ops.proofs.CanonLemmas.Whole.{canonical, not_false}
use Rattle.mc_pure_ops.proofs.canon.canonical.canon.Goals as goal

pub returns-then-is_false : goal.returns-then-is_false
returns-then-is_false c = if_ok c.contradiction.result _ _ (λ _ e. inl (c.is_false.ensures.0 c.if-is_false.true, e)) c.contradiction.ensures

pub differences-requires-clause-starts : goal.differences-requires-clause-starts
differences-requires-clause-starts c = starts_there c.normal_forms_say_all.ensures c.args.pure.now c.has_normal_form.ensures c.starts.result.now c.starts.ensures

pub returns : goal.returns
returns c = canonical c.normal_forms_say_all.ensures c.derived_grows.ensures.atoms c.args.pure.now (not_false c.args.pure.now c.is_false.result c.is_false.ensures c.if-is_false.false) c.has_normal_form.ensures c.whole-left.result.lost c.whole-left.ensures.lost _ _ _ _ _ _ c.starts.ensures c.in_ok-list.ensures c.in_ok-same.ensures c.in_ok-apart.ensures (rw c.as_slice.ensures.value at c.in_ok-extend_from_slice.ensures.items) (rw c.as_slice-2.ensures.value at c.in_ok-extend_from_slice-2.ensures.items)
