use Rattle.mc_c_check.proofs.Faults.{told_got}
use Rattle.mc_c_check.proofs.recursion.check_edges.Goals as goal

pub loop-edge-preserved : goal.loop-edge-preserved
loop-edge-preserved c =
    told_got c.args.edges.now c.loop-edge.edge-index (record { caller = 0; callee = 0; place = record { line = 0; column = 0 } }) c.args.told.now.fault c.loop-edge.told.fault c.check_edge.new.told.fault
    c.loop-edge-test.true c.loop-edge.invariant c.in_ok-check_edge.ensures
