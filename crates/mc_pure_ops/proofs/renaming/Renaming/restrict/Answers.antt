use Rattle.std.proofs.Common.{◌+◌, sym, ◌∙◌}
use Rattle.mc_base.specs.Nodes.{null}
use Rattle.mc_pure_ops.specs.Renaming.Images.{image_of}
use Rattle.mc_pure_ops.proofs.RenamingLemmas.Adding.{NodesBelow, nodes_grow, gathers_add, all_restricted}
use Rattle.mc_pure_ops.proofs.renaming.Renaming.restrict.Goals as goal

pub loop-node-preserved : goal.loop-node-preserved
loop-node-preserved c =
    gathers_add (image_of c.args.self.now) (NodesBelow c.args.keep.now c.loop-node.node-index) (NodesBelow c.args.keep.now (c.loop-node.node-index + 1))
    _ c.in-Some.to c.loop-node.some c.add.new.self c.in_ok-add.field-0
    (nodes_grow c.args.keep.now c.loop-node.node-index null c.loop-node-test.true)
    (sym c.get.ensures ∙ c.in-Some.is)
    (record { yes = c.in_ok-add.ensures.yes; no = c.in_ok-add.ensures.no; other = c.in_ok-add.ensures.other })
    c.loop-node.invariant

pub returns : goal.returns
returns c = all_restricted c.args.self.now c.loop-node.some c.args.keep.now c.loop-node.node-index c.loop-node-test.false c.loop-node.invariant
