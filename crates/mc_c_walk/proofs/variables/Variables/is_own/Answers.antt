use Rattle.std.proofs.Common.{List, is_some, ap, sym, ◌∙◌}
use Rattle.mc_c_types.specs.Tables.{Variable, type_in}
use Rattle.mc_c_walk.proofs.Parted.{own_held}
use Rattle.mc_c_walk.proofs.variables.Variables.is_own.Goals as goal

pub returns : goal.returns
returns c =
    c.has_between.ensures
    ∙ rw (sym c.self.view_is)
    (rw c.len.ensures
    (ap (λ (vs : List Variable). is_some (type_in vs c.args.name.now)) (own_held c.self.inside.heads c.self.inside.own c.self.inside.variables c.self.invariant)))
