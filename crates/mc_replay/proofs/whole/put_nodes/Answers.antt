use Rattle.std.proofs.Common.{◌≡◌, drop, sym, subst}
use Rattle.std.specs.List.{AllByRecursion}
use Rattle.mc_pure_ops.specs.Join.Joint.{Pairs}
use Rattle.mc_replay.specs.Joined.{seen}
use Rattle.mc_replay.specs.Whole.{HasPairKind, with_pair_nodes}
use Rattle.mc_replay.proofs.WholeLemmas.Putting.{other_at, nodes_more, nodes_end}
use Rattle.mc_replay.proofs.whole.put_nodes.Goals as goal

pub put_node-requires : goal.put_node-requires
put_node-requires c =
    let j = seen c.args.join.now in
    other_at j c.as_slice-pairs.result.now c.loop-place.place _ c.loop-place.auto.place c.loop-place-test.true
    (subst (λ (ps : Pairs). AllByRecursion (HasPairKind j) (drop 1 ps)) (sym c.as_slice-pairs.ensures.value) c.requires.others)

pub loop-place-preserved : goal.loop-place-preserved
loop-place-preserved c =
    let j = seen c.args.join.now in
    let ps = c.as_slice-pairs.result.now in
    nodes_more j c.args.out.now c.loop-place.out c.put_node.new.out ps (drop 1 ps) c.loop-place.place _ c.loop-place-test.true
    (other_at j ps c.loop-place.place _ c.loop-place.auto.place c.loop-place-test.true
    (subst (λ (qs : Pairs). AllByRecursion (HasPairKind j) (drop 1 qs)) (sym c.as_slice-pairs.ensures.value) c.requires.others))
    c.in_ok-put_node.ensures c.loop-place.invariant

pub returns : goal.returns
returns c =
    let j = seen c.args.join.now in
    let ps = c.as_slice-pairs.result.now in
    subst (λ (qs : Pairs). c.loop-place.out ≡ with_pair_nodes j c.args.out.now (drop 1 qs)) c.as_slice-pairs.ensures.value
    (nodes_end j c.args.out.now c.loop-place.out ps (drop 1 ps) c.loop-place.place c.loop-place-test.false c.loop-place.invariant)
