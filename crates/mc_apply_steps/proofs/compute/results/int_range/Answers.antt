use Rattle.std.proofs.Common.{arith}
use Rattle.std.proofs.lemmas.Int.{ints}
use Rattle.mc_state.specs.State.{pure_of}
use Rattle.mc_apply_steps.proofs.compute.results.int_range.Goals as goal

pub returns : goal.returns
returns c =
    let range = c.range.result in
    let are = c.least_ranges_are_known.ensures.ints (pure_of c.args.s.now) c.args.node (record { lo = range.lo; hi = range.hi }) c.requires.has c.range.ensures in
    let low = are.0 in
    let mid = are.1 in
    let high = are.2 in
    record { least = c.range.ensures; ints = (mid, (low, omega (arith, ints)), (omega (arith, ints), high)) }
