use Rattle.std.proofs.Common.{◌<◌, arith, get_or}
use Rattle.mc_c_check.proofs.Faults.{told_skipped}
use Rattle.mc_c_check.proofs.Graphs.{no_way_up}
use Rattle.mc_c_check.proofs.recursion.check_edge.Goals as goal

pub returns-then-level_of : goal.returns-then-level_of
returns-then-level_of c =
    let levels = c.args.levels.now in
    let edge = c.args.edge in
    let below : get_or levels edge.callee 0 < get_or levels edge.caller 0 = omega (arith, c.level_of.ensures, c.level_of-2.ensures, c.if-level_of.true) in
    told_skipped c.args.edges.now edge c.args.told.now.fault (λ back. no_way_up c.args.edges.now levels edge c.requires.levels below back)
