use Rattle.mc_symbolic.specs.Kept.{seen}
use Rattle.mc_symbolic.proofs.Kept.{option_there}
use Rattle.mc_symbolic.proofs.state.State.set_var.Goals as goal

pub invariant_of-self : goal.invariant_of-self
invariant_of-self c =
    let h = rw (← c.self.view_is) at c.requires in
    rw c.set.ensures (record { bounded = c.numbers_stay_bounded.ensures.var (seen c.self.inside) c.args.x c.args.node c.self.invariant.bounded (option_there c.self.inside.pure.kinds c.args.node h); starts = c.self.invariant.starts; atoms = c.self.invariant.atoms })
