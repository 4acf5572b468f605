use Rattle.std.proofs.Common.{◌≡◌, ◌+◌, ◌-◌, ap, length, sym, ◌∙◌}
use Rattle.mc_c_walk.proofs.Parted.{declared_held, length_put, own_grown}
use Rattle.mc_c_walk.proofs.variables.Variables.declare.Goals as goal

pub returns : goal.returns
returns c =
    let more : c.len-2.result ≡ length c.self.inside.variables + 1 =
    c.len-2.ensures ∙ ap length c.in_default.ensures ∙ length_put c.self.inside.variables (c.len.result - c.self.inside.heads) c.args.variable in
    rw (sym c.self.view_is)
    (rw c.in_default.ensures
    (rw c.len.ensures
    (rw (own_grown c.self.inside.heads c.self.inside.own (length c.self.inside.variables) c.len-2.result more c.self.invariant)
    (declared_held c.self.inside.heads c.self.inside.own c.self.inside.variables c.args.variable c.self.invariant))))
