use Rattle.std.proofs.Common.{◌∙◌, sym, ap}
use Rattle.mc_pure_ops.specs.Join.Joint.{Pairs}
use Rattle.mc_joins.specs.Joinings.{with_pairs}
use Rattle.mc_replay.proofs.Pairing.{zip_past}
use Rattle.mc_replay.proofs.made.put_all.Goals as goal

pub returns-in-None : goal.returns-in-None
returns-in-None c =
    sym (c.loop-place.invariant ∙ ap (λ (z : Pairs). with_pairs c.loop-place.pairs.items z) (zip_past c.args.left.now c.args.right.now c.loop-place.place c.in-None.ensures.lookup.3))
