use Rattle.std.proofs.Common.{ap, ◌∙◌}
use Rattle.mc_c_types.proofs.Latest.{names_kept, names_of}
use Rattle.mc_c_types.proofs.scope.Visible.truncate.Goals as goal

pub invariant_of-self : goal.invariant_of-self
invariant_of-self c =
    rw c.truncate.ensures.items
    (names_kept c.self.inside.variables.items c.self.inside.names c.truncate-2.new.self c.args.kept c.self.invariant c.truncate-2.ensures)
