use Rattle.mc_c_types.proofs.Latest.{names_put}
use Rattle.mc_c_types.proofs.scope.Visible.insert.Goals as goal

pub invariant_of-self-in_default : goal.invariant_of-self-in_default
invariant_of-self-in_default c =
    rw c.in_ok-insert.ensures.items
    (names_put c.self.inside.variables.items c.self.inside.names c.insert-2.new.self c.args.place c.args.variable c.self.invariant c.in_default.ensures)
