use Rattle.std.proofs.Common.{sym, ◌∙◌, not}
use Rattle.mc_semantics.specs.Configs.{is_place}
use Rattle.mc_c_types.specs.Held.{variable_held}
use Rattle.mc_c_types.specs.Tables.{Variable}
use Rattle.mc_c_types.specs.declared.scope.Named.{Named}
use Rattle.mc_resolve.proofs.FieldNumbers.{prefix_map}
use Rattle.mc_resolve.proofs.FunctionNumbers.{number_of_none, number_of_some}
use Rattle.mc_resolve.proofs.locals.Locals.number.Goals as goal

pub returns-in-None : goal.returns-in-None
returns-in-None c =
    c.len.ensures
    ∙ number_of_none (λ (v : Named). is_place v.place c.args.place) c.args.self.now c.in-None.ensures
    ∙ sym (prefix_map (λ (v : Variable). not (is_place v.place c.args.place)) variable_held c.args.self.now)

pub returns-in-Some : goal.returns-in-Some
returns-in-Some c =
    number_of_some (λ (v : Named). is_place v.place c.args.place) c.args.self.now c.in-Some.number c.in-Some.ensures
    ∙ sym (prefix_map (λ (v : Variable). not (is_place v.place c.args.place)) variable_held c.args.self.now)
