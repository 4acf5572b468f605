use Rattle.std.proofs.Common.{sym, ◌∙◌, arith}
use Rattle.mc_replay.specs.Named.{is_own}
use Rattle.mc_replay.proofs.Finding.{find_next, find_here, find_end}
use Rattle.mc_replay.proofs.naming.first_own.Goals as goal

pub loop-node-preserved : goal.loop-node-preserved
loop-node-preserved c = λ know t.
    c.loop-node.invariant know t
    ∙ find_next (is_own know c.args.state.now.kinds c.args.kind c.args.term.now) c.args.nodes.now c.loop-node.node-index _ (omega arith) (sym (c.if-is_own.ensures know t))

pub returns-then-is_own : goal.returns-then-is_own
returns-then-is_own c = λ know t.
    sym (c.loop-node.invariant know t
    ∙ find_here (is_own know c.args.state.now.kinds c.args.kind c.args.term.now) c.args.nodes.now c.loop-node.node-index _ (omega arith) (sym (c.if-is_own.ensures know t)))

pub returns : goal.returns
returns c = λ know t.
    sym (c.loop-node.invariant know t
    ∙ find_end (is_own know c.args.state.now.kinds c.args.kind c.args.term.now) c.args.nodes.now c.loop-node.node-index (omega arith))
