use Rattle.mc_pure.proofs.Stepping.{node_off, cut_done, cut_long, small_cut, node_zero, cut_downward}
use Rattle.mc_pure.specs.Known.{pure_of}
use Rattle.mc_pure.proofs.close.restrict.Goals as goal

pub cut-step-requires-clause-off : goal.cut-step-requires-clause-off
cut-step-requires-clause-off c = node_off (pure_of c.args.known.now) c.args.rows.now c.args.node c.row_of-row.result c.requires.sound c.requires.there c.row_of-row.ensures.is

pub act-requires-clause-long : goal.act-requires-clause-long
act-requires-clause-long c = cut_long (pure_of c.args.known.now) c.args.rows.now c.args.node c.args.span.now.lo c.args.span.now.hi c.row_of-row.result c.cut-step.result c.requires.sound c.requires.derived c.requires.there c.row_of-row.ensures.is c.cut-step.ensures

pub act-requires-clause-by : goal.act-requires-clause-by
act-requires-clause-by c = small_cut c.row_of-row.result c.args.span.now.lo c.args.span.now.hi c.cut-step.result c.row_of-row.ensures.tame c.cut-step.ensures

pub act-requires-clause-order : goal.act-requires-clause-order
act-requires-clause-order c = cut_downward c.row_of-row.result c.args.span.now.lo c.args.span.now.hi c.cut-step.result (node_zero (pure_of c.args.known.now) c.args.rows.now c.args.node c.row_of-row.result c.requires.sound c.requires.there c.row_of-row.ensures.is) c.cut-step.ensures

pub returns : goal.returns
returns c =
    let a = (pure_of c.args.known.now) in
    let r = c.args.rows.now in
    cut_done a r c.act.new.rows c.args.node c.args.span.now.lo c.args.span.now.hi c.row_of-row.result c.cut-step.result c.act.result c.requires.sound c.requires.derived c.requires.there c.row_of-row.ensures.is
    (node_off a r c.args.node c.row_of-row.result c.requires.sound c.requires.there c.row_of-row.ensures.is) c.cut-step.ensures c.act.ensures
