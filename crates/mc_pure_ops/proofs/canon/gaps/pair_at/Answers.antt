use Rattle.mc_pure_ops.proofs.CanonLemmas.Taken.{node_at, itself_none, pair_of_places}
use Rattle.mc_pure_ops.proofs.canon.gaps.pair_at.Goals as goal

pub pair_gives-requires-clause-first : goal.pair_gives-requires-clause-first
pair_gives-requires-clause-first c = node_at c.args.pure.now c.args.nodes.now c.args.i _ c.requires.nodes c.requires.first

pub pair_gives-requires-clause-second : goal.pair_gives-requires-clause-second
pair_gives-requires-clause-second c = node_at c.args.pure.now c.args.nodes.now c.args.j _ c.requires.nodes c.requires.second

pub returns : goal.returns
returns c = pair_of_places c.args.pure.now c.args.left.now.lost c.args.starts.now c.args.inside c.args.nodes.now c.args.i c.args.j _ c.pair_gives.result c.requires.first c.requires.second c.if-i-j.false c.pair_gives.ensures
