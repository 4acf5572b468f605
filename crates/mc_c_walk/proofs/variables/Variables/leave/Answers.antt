use Rattle.std.proofs.Common.{sym, ◌∙◌}
use Rattle.mc_c_walk.proofs.Parted.{left_held}
use Rattle.mc_c_walk.proofs.variables.Variables.leave.Goals as goal

pub returns : goal.returns
returns c =
    rw (sym c.self.view_is)
    (rw c.truncate.ensures
    (rw c.min-self-inside-2.ensures
    (rw c.min-self-inside.ensures
    (rw c.len.ensures (left_held c.self.inside.heads c.self.inside.own c.self.inside.variables c.args.marks c.self.invariant)))))
