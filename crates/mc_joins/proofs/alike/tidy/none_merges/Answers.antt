use Rattle.std.proofs.Common.{◌≡◌, true, false, refl, arith}
use Rattle.mc_base.specs.declared.ids.NodeId.{NodeId}
use Rattle.mc_joins.specs.Alike.Tidy.{NoneMergesWith}
use Rattle.mc_state.proofs.Lists.{each_here, each_more, each_all}
use Rattle.mc_joins.proofs.alike.tidy.none_merges.Goals as goal

pub returns-then-not-none_merges_with : goal.returns-then-not-none_merges_with
returns-then-not-none_merges_with c =
    let ys = c.nodes-keep-items.result.now in (
      λ t. let w : false ≡ true = t in absurd (cc w),
      λ all. let w = c.if-not-none_merges_with.ensures.1 (each_here (λ (n : NodeId). NoneMergesWith c.args.state.now n) ys _ c.nodes-keep-items.ensures c.loop-keep.keep-index _ (omega arith) all) in absurd (cc w),
    )

pub loop-keep-preserved : goal.loop-keep-preserved
loop-keep-preserved c =
    let ys = c.nodes-keep-items.result.now in
    each_more (λ (n : NodeId). NoneMergesWith c.args.state.now n) ys _ c.nodes-keep-items.ensures c.loop-keep.keep-index _ (omega arith) c.loop-keep.invariant (c.if-not-none_merges_with.ensures.0 refl)

pub returns : goal.returns
returns c =
    let ys = c.nodes-keep-items.result.now in
    (λ t. each_all (λ (n : NodeId). NoneMergesWith c.args.state.now n) ys _ c.nodes-keep-items.ensures c.loop-keep.keep-index (omega arith) c.loop-keep.invariant, λ all. refl)
