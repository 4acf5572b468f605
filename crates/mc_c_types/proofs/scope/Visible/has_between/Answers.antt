use Rattle.std.proofs.Common.{ap, drop, is_some, take, ◌∙◌, ◌-◌, None, Some}
use Rattle.mc_c_types.specs.Held.{variables_held}
use Rattle.mc_c_types.specs.Tables.{type_in}
use Rattle.mc_c_types.proofs.Latest.{has_between}
use Rattle.mc_c_types.proofs.scope.Visible.has_between.Goals as goal

pub returns-in-None : goal.returns-in-None
returns-in-None c =
    has_between c.self.inside.variables.items c.self.inside.names c.args.name.now c.args.start c.args.end None c.self.invariant c.in-None.ensures
    ∙ ap (λ vs. is_some (type_in (variables_held (take (c.args.end - c.args.start) (drop c.args.start vs))) c.args.name.now)) c.self.view_is

pub returns-in-Some : goal.returns-in-Some
returns-in-Some c =
    has_between c.self.inside.variables.items c.self.inside.names c.args.name.now c.args.start c.args.end (Some c.in-Some.place) c.self.invariant c.in-Some.ensures
    ∙ ap (λ vs. is_some (type_in (variables_held (take (c.args.end - c.args.start) (drop c.args.start vs))) c.args.name.now)) c.self.view_is
