use Rattle.std.proofs.Common.{Some, None, sym, ◌∙◌}
use Rattle.std.proofs.lemmas.List.{length-map}
use Rattle.mc_c_types.specs.Held.{variable_held}
use Rattle.mc_resolve.specs.Named.{naming_at, visible_at}
use Rattle.mc_resolve.proofs.Seeing.{number_found}
use Rattle.mc_resolve.proofs.naming.NamesHere.variable.Goals as goal

pub returns-in-None : goal.returns-in-None
returns-in-None c =
    c.len.ensures
    ∙ sym (length-map c.args.self.now.naming.locals.now variable_held)
    ∙ number_found (naming_at c.args.self.now) (visible_at c.args.self.now) c.args.name.now None c.in-None.ensures

pub returns-in-Some : goal.returns-in-Some
returns-in-Some c =
    c.number.ensures
    ∙ number_found (naming_at c.args.self.now) (visible_at c.args.self.now) c.args.name.now (Some (variable_held c.in-Some.found.now)) c.in-Some.ensures
