use Rattle.std.proofs.Common.{◌≡◌}
use Rattle.mc_apply_steps.proofs.ComputeLemmas.Put.{same_range}
use Rattle.mc_apply_steps.proofs.compute.order.split_order.Goals as goal

pub returns : goal.returns
returns c =
    let s = c.args.s.now in
    let once = c.least_ranges_are_known.ensures.once in
    let own = c.in_ok-above.ensures in
    let below = c.in_ok-assume_at_most.ensures in
    let over = c.in_ok-assume_above.ensures in
    record {
      at_most = λ range l r.
          let first = same_range once range s c.args.a c.int_range-left.result c.int_range-left.ensures.least l in
          let second = same_range once range s c.args.b c.int_range-right.result c.int_range-right.ensures.least r in
          cc;
      above = λ range l r.
          let first = same_range once range s c.args.a c.int_range-left.result c.int_range-left.ensures.least l in
          let second = same_range once range s c.args.b c.int_range-right.result c.int_range-right.ensures.least r in
          cc;
    }
