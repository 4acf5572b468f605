use Rattle.std.proofs.Common.{length, sym, subst, ◌∙◌}
use Rattle.mc_pure.specs.Nodes.{RiseFrom}
use Rattle.mc_joins.proofs.AnewLemmas.Numbering.{numbering_skip, numbering_more}
use Rattle.mc_joins.proofs.anew.numbered.nodes_anew.Goals as goal

pub loop-node-preserved-in_default : goal.loop-node-preserved-in_default
loop-node-preserved-in_default c =
    let s = c.args.state.now in
    numbering_skip (length s.env) s.kinds (subst (RiseFrom 1) c.known.ensures.kinds c.is_kept.ensures.rise) c.nodes-node-items.result.now c.nodes-node-items.ensures
    c.loop-node.node-index _ c.loop-node.fresh c.loop-node.renaming c.loop-node-test.true (sym c.kind.ensures ∙ c.in_default.is) c.loop-node.invariant

pub loop-node-preserved : goal.loop-node-preserved
loop-node-preserved c =
    let s = c.args.state.now in
    numbering_more (length s.env) s.kinds (subst (RiseFrom 1) c.known.ensures.kinds c.is_kept.ensures.rise) c.nodes-node-items.result.now c.nodes-node-items.ensures
    c.loop-node.node-index _ c.in-Some.kind c.loop-node.fresh c.add_node.new.self c.loop-node.renaming c.add.new.self c.in_ok-number.number c.in_ok-add.field-0
    c.loop-node-test.true (sym c.kind.ensures ∙ c.in-Some.is) c.in_ok-number.ensures.ok c.in_ok-number.ensures.node c.in_ok-add.ensures.yes c.in_ok-add.ensures.other c.loop-node.invariant
