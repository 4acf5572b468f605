use Rattle.mc_base.specs.Trees.{work_left}
use Rattle.mc_base.proofs.trees.drop_tree.Given as goal

abbrev pub decreases-loop-left : goal.decreases-loop-left
decreases-loop-left g l = work_left g.T.Tree.size l.left
