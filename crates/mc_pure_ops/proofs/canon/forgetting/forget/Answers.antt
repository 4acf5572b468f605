use Rattle.std.proofs.Common.{◌≡◌, inl, inr}
use Rattle.mc_pure_ops.proofs.CanonLemmas.Lists.{if_ok}
use Rattle.mc_pure_ops.proofs.CanonLemmas.Taken.{starts_there}
use Rattle.mc_pure_ops.proofs.CanonLemmas.Whole.{not_false}
use Rattle.mc_pure_ops.proofs.CanonLemmas.Forgets.{forgotten_list}
use Rattle.mc_pure_ops.proofs.canon.forgetting.forget.Goals as goal

pub returns-then-is_false : goal.returns-then-is_false
returns-then-is_false c = if_ok c.contradiction.result _ _ (λ _ e. inl (c.is_false.ensures.0 c.if-is_false.true, e)) c.contradiction.ensures

pub differences-requires-clause-nodes : goal.differences-requires-clause-nodes
differences-requires-clause-nodes c = starts_there c.normal_forms_say_all.ensures c.args.pure.now c.has_normal_form.ensures c.starts.result.now c.starts.ensures

pub differences-requires-2-clause-nodes : goal.differences-requires-2-clause-nodes
differences-requires-2-clause-nodes c = starts_there c.normal_forms_say_all.ensures c.args.pure.now c.has_normal_form.ensures c.starts-2.result.now c.starts-2.ensures

pub returns : goal.returns
returns c =
    let t = not_false c.args.pure.now c.is_false.result c.is_false.ensures c.if-is_false.false in
    inr (t, forgotten_list c.normal_forms_say_all.ensures c.derived_grows.ensures.atoms c.args.pure.now t c.has_normal_form.ensures c.args.lost c.requires.not_null c.without-left.result.lost c.without-left.result.heir c.without-left.ensures.lost c.without-left.ensures.heir _ _ _ _ _ _ _ _ _ c.starts.ensures c.starts-2.ensures c.in_ok-list.ensures c.in_ok-same.ensures c.in_ok-apart.ensures c.in_ok-inner.ensures (rw c.as_slice.ensures.value at c.in_ok-extend_from_slice.ensures.items) (rw c.as_slice-2.ensures.value at c.in_ok-extend_from_slice-2.ensures.items) (rw c.as_slice-3.ensures.value at c.in_ok-extend_from_slice-3.ensures.items))
