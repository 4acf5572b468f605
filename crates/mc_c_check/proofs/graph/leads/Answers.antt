use Rattle.mc_c_check.proofs.Graphs.{leads_answer}
use Rattle.mc_c_check.proofs.graph.leads.Goals as goal

pub returns : goal.returns
returns c =
    leads_answer c.args.edges.now c.as_mut_slice-marks.result.now c.spread_all.new.marks c.args.count c.args.from c.args.to
    (rw c.as_mut_slice-marks.ensures.value c.in_ok-list.ensures.long)
    (rw c.as_mut_slice-marks.ensures.value c.in_ok-list.ensures.none)
    c.requires.start
    (λ start begun. c.spread_all.ensures.sound start (c.spread_along.ensures.sound start begun))
    (λ n h. c.spread_all.ensures.kept n (c.spread_along.ensures.kept n h))
    c.spread_all.ensures.closed
