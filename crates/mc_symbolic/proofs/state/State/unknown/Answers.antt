use Rattle.std.proofs.Common.{◌∙◌}
use Rattle.mc_symbolic.proofs.Kept.{begins}
use Rattle.mc_symbolic.proofs.state.State.unknown.Goals as goal

pub invariant_of-result : goal.invariant_of-result
invariant_of-result c =
    let k = begins c.numbers_stay_bounded.ensures.unknown c.args.vars c.of.result c.new-2.result c.in_ok-pure.pure (c.of.ensures ∙ c.in_ok-env.ensures) c.new-2.ensures c.in_ok-pure.ensures in
    record { bounded = k.bounded; starts = k.same; atoms = k.formed }
