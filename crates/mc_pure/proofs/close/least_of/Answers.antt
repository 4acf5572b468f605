use Rattle.std.proofs.Common.{refl, inl, inr}
use Rattle.mc_base.specs.Nodes.{null}
use Rattle.mc_pure.proofs.Changing.{same_node}
use Rattle.mc_pure.proofs.close.least_of.Goals as goal

pub returns-then-change-eq0 : goal.returns-then-change-eq0
returns-then-change-eq0 c = inr (refl, same_node c.args.change.now.keep null c.if-change-eq0.true)

pub returns-else-change-eq0 : goal.returns-else-change-eq0
returns-else-change-eq0 c = inl refl
