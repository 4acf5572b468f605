use Rattle.std.proofs.Common.{[], ◌∷◌}
use Rattle.mc_symbolic.specs.Kept.{seen}
use Rattle.mc_symbolic.proofs.Kept.{atom_there, formed_pushed}
use Rattle.mc_symbolic.proofs.state.State.assume.Goals as goal

pub invariant_of-self-2 : goal.invariant_of-self-2
invariant_of-self-2 c =
    let i = c.self.inside in
    let h = rw (← c.self.view_is) at c.requires in
    rw (c.in_ok-assume.ensures.ok) (record { bounded = c.numbers_stay_bounded.ensures.atoms (seen i) (c.args.atom.now ∷ []) c.self.invariant.bounded (atom_there i.pure.kinds c.args.atom.now h, tt); starts = c.self.invariant.starts; atoms = formed_pushed i.pure.kinds i.pure.written c.args.atom.now c.self.invariant.atoms h })
