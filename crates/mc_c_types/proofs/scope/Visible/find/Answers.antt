use Rattle.std.proofs.Common.{◌≡◌, ap, length, refl, reverse, sym, ◌∙◌, None, Some}
use Rattle.std.proofs.lemmas.Option.{slice_get_past, slice_get_read}
use Rattle.std.specs.Prelude.{find, slice_get}
use Rattle.mc_c_syntax.specs.Ast.Names.{is_same}
use Rattle.mc_c_types.proofs.Latest.{named_found}
use Rattle.mc_c_types.proofs.scope.Visible.find.Goals as goal

pub returns-in-None : goal.returns-in-None
returns-in-None c =
    named_found c.self.inside.variables.items c.self.inside.names c.args.name.now None None c.self.invariant c.in-None.ensures refl
    ∙ ap (λ vs. find (λ v. is_same v.name.now c.args.name.now) (reverse vs)) c.self.view_is

pub returns-in-None-get : goal.returns-in-None-get
returns-in-None-get c =
    let at : None ≡ slice_get c.self.inside.variables.items c.in-Some.place =
    sym (slice_get_past c.as_slice.result.now c.in-Some.place c.in-None-get.ensures.lookup.3) ∙ ap (λ vs. slice_get vs c.in-Some.place) c.as_slice.ensures.value in
    named_found c.self.inside.variables.items c.self.inside.names c.args.name.now (Some c.in-Some.place) None c.self.invariant c.in-Some.ensures at
    ∙ ap (λ vs. find (λ v. is_same v.name.now c.args.name.now) (reverse vs)) c.self.view_is

pub returns-in-Some-get : goal.returns-in-Some-get
returns-in-Some-get c =
    let vs = c.as_slice.result.now in
    let found = c.in-Some-get.found.now in
    let at : Some found ≡ slice_get c.self.inside.variables.items c.in-Some.place =
    sym (slice_get_read vs (length vs) c.in-Some.place found refl c.in-Some-get.ensures.lookup.3.0 c.in-Some-get.ensures.lookup.1) ∙ ap (λ ws. slice_get ws c.in-Some.place) c.as_slice.ensures.value in
    named_found c.self.inside.variables.items c.self.inside.names c.args.name.now (Some c.in-Some.place) (Some c.in-Some-get.found.now) c.self.invariant c.in-Some.ensures at
    ∙ ap (λ ws. find (λ v. is_same v.name.now c.args.name.now) (reverse ws)) c.self.view_is
