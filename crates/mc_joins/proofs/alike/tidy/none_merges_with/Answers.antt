use Rattle.std.proofs.Common.{◌≡◌, true, false, refl, arith}
use Rattle.mc_base.specs.declared.ids.NodeId.{NodeId}
use Rattle.mc_joins.specs.Alike.Tidy.{CanBeMerged}
use Rattle.mc_state.proofs.Lists.{each_here, each_more, each_all}
use Rattle.mc_joins.proofs.alike.tidy.none_merges_with.Goals as goal

pub returns-then-can_be_merged : goal.returns-then-can_be_merged
returns-then-can_be_merged c =
    let ys = c.nodes-gone-items.result.now in (
      λ t. let w : false ≡ true = t in absurd (cc w),
      λ all. absurd (each_here (λ (n : NodeId). CanBeMerged c.args.state.now c.args.keep n → ⊥) ys _ c.nodes-gone-items.ensures c.loop-gone.gone-index _ (omega arith) all (c.if-can_be_merged.ensures.0 refl)),
    )

pub loop-gone-preserved : goal.loop-gone-preserved
loop-gone-preserved c =
    let ys = c.nodes-gone-items.result.now in
    each_more (λ (n : NodeId). CanBeMerged c.args.state.now c.args.keep n → ⊥) ys _ c.nodes-gone-items.ensures c.loop-gone.gone-index _ (omega arith) c.loop-gone.invariant (λ m. let w : false ≡ true = c.if-can_be_merged.ensures.1 m in absurd (cc w))

pub returns : goal.returns
returns c =
    let ys = c.nodes-gone-items.result.now in
    (λ t. each_all (λ (n : NodeId). CanBeMerged c.args.state.now c.args.keep n → ⊥) ys _ c.nodes-gone-items.ensures c.loop-gone.gone-index (omega arith) c.loop-gone.invariant, λ all. refl)
