use Rattle.std.proofs.Common.{sym}
use Rattle.mc_c_walk.proofs.Parted.{own_held}
use Rattle.mc_c_walk.proofs.variables.Variables.own.Goals as goal

pub returns : goal.returns
returns c =
    rw (sym c.self.view_is)
    (rw c.as_slice.ensures
    (rw c.len.ensures
    (own_held c.self.inside.heads c.self.inside.own c.self.inside.variables c.self.invariant)))
