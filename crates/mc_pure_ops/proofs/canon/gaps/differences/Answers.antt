use Rattle.std.proofs.Common.{◌≡◌}
use Rattle.mc_pure_ops.proofs.CanonLemmas.Taken.{differences_all}
use Rattle.mc_pure_ops.proofs.canon.gaps.differences.Goals as goal

pub returns : goal.returns
returns c = differences_all c.args.pure.now c.args.left.now.lost c.args.starts.now c.args.inside c.args.nodes.now _ _ _ (rw c.new-list.ensures.items at c.in_ok-put_written.ensures) c.in_ok-put_pairs.ensures
