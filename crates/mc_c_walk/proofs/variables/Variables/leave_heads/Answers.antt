use Rattle.std.proofs.Common.{sym, ◌∙◌}
use Rattle.mc_c_walk.proofs.Parted.{without_heads_held}
use Rattle.mc_c_walk.proofs.variables.Variables.leave_heads.Goals as goal

pub returns : goal.returns
returns c =
    rw (sym c.self.view_is)
    (rw c.truncate.ensures
    (rw c.len.ensures
    (rw c.saturating_sub-gone.ensures (without_heads_held c.self.inside.heads c.self.inside.own c.args.kept c.self.inside.variables c.self.invariant))))
