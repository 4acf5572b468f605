use Rattle.std.proofs.Common.{sym}
use Rattle.mc_pure.proofs.Placing.{no_kind}
use Rattle.mc_pure.proofs.nodes.Nodes.kind.Goals as goal

pub returns-in-None : goal.returns-in-None
returns-in-None c = sym (no_kind c.args.self.now c.args.node c.in-None.ensures.at)
