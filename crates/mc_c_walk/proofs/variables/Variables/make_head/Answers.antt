use Rattle.std.proofs.Common.{sym, ◌∙◌}
use Rattle.mc_c_walk.proofs.Parted.{headed_held}
use Rattle.mc_c_walk.proofs.variables.Variables.make_head.Goals as goal

pub returns : goal.returns
returns c =
    rw (sym c.self.view_is)
    (rw c.min-self-inside.ensures
    (rw c.min-around.ensures (rw c.len.ensures (headed_held c.self.inside.heads c.self.inside.own c.self.inside.variables c.args.marks))))
