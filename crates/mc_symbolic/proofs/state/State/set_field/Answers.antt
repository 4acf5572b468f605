use Rattle.mc_symbolic.specs.Kept.{seen}
use Rattle.mc_symbolic.proofs.Kept.{kept_field}
use Rattle.mc_symbolic.proofs.state.State.set_field.Goals as goal

pub invariant_of-self : goal.invariant_of-self
invariant_of-self c =
    let i = c.self.inside in
    let h = rw (← c.self.view_is) at c.requires in
    let k = kept_field c.numbers_stay_bounded.ensures.replaced c.nodes_are_there.ensures.picked (seen i) i.pure.starts c.args.id c.args.f c.args.node c.set_field.new.self c.self.invariant.bounded c.self.invariant.starts h c.set_field.ensures.there c.set_field.ensures.absent in
    record { bounded = k.bounded; starts = k.same; atoms = c.self.invariant.atoms }
