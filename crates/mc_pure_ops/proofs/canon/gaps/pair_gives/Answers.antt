use Rattle.std.proofs.Common.{◌≡◌, rules}
use mir.Syntax.{w64}
use mir.Val.{to_z, of_z}
use Rattle.mc_pure_ops.proofs.CanonLemmas.Moving.{pair_found, no_first, no_second}
use Rattle.mc_pure_ops.proofs.canon.gaps.pair_gives.Goals as goal

pub returns : goal.returns
returns c =
    let d : to_z w64 (of_z w64 c.args.by) ≡ c.args.by = search rules in
    pair_found c.args.pure.now c.requires.not_false c.args.left.now.lost c.args.starts.now c.args.inside c.args.x c.args.y c.args.by c.in-Some.first c.in-Some-place.second c.gap_between.result c.gives.result c.in-Some.ensures c.in-Some-place.ensures c.gap_between.ensures.left c.gap_between.ensures.right (rw d at c.gap_between.ensures.by) c.gives.ensures
