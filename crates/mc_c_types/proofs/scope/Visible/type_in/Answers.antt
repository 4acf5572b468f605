use Rattle.std.proofs.Common.{◌≡◌, ap, length, refl, sym, ◌∙◌, None, Some}
use Rattle.std.proofs.lemmas.Option.{slice_get_past, slice_get_read}
use Rattle.std.specs.Prelude.{slice_get}
use Rattle.mc_c_types.specs.Held.{variables_held}
use Rattle.mc_c_types.specs.Tables.{type_in}
use Rattle.mc_c_types.proofs.Latest.{type_found}
use Rattle.mc_c_types.proofs.scope.Visible.type_in.Goals as goal

pub returns-in-None : goal.returns-in-None
returns-in-None c =
    type_found c.self.inside.variables.items c.self.inside.names c.args.name.now None None c.self.invariant c.in-None.ensures refl
    ∙ ap (λ vs. type_in (variables_held vs) c.args.name.now) c.self.view_is

pub returns-in-None-get : goal.returns-in-None-get
returns-in-None-get c =
    let at : None ≡ slice_get c.self.inside.variables.items c.in-Some.place =
    sym (slice_get_past c.as_slice.result.now c.in-Some.place c.in-None-get.ensures.lookup.3) ∙ ap (λ vs. slice_get vs c.in-Some.place) c.as_slice.ensures.value in
    type_found c.self.inside.variables.items c.self.inside.names c.args.name.now (Some c.in-Some.place) None c.self.invariant c.in-Some.ensures at
    ∙ ap (λ vs. type_in (variables_held vs) c.args.name.now) c.self.view_is

pub returns-in-Some-get : goal.returns-in-Some-get
returns-in-Some-get c =
    let vs = c.as_slice.result.now in
    let found = c.in-Some-get.found.now in
    let at : Some found ≡ slice_get c.self.inside.variables.items c.in-Some.place =
    sym (slice_get_read vs (length vs) c.in-Some.place found refl c.in-Some-get.ensures.lookup.3.0 c.in-Some-get.ensures.lookup.1) ∙ ap (λ ws. slice_get ws c.in-Some.place) c.as_slice.ensures.value in
    type_found c.self.inside.variables.items c.self.inside.names c.args.name.now (Some c.in-Some.place) (Some c.in-Some-get.found.now) c.self.invariant c.in-Some.ensures at
    ∙ ap (λ vs. type_in (variables_held vs) c.args.name.now) c.self.view_is
