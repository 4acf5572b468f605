use Rattle.std.proofs.Common.{ap, refl, sym, ◌∙◌, length}
use Rattle.std.proofs.lemmas.Option.{slice_get-map, slice_get_read}
use Rattle.std.specs.Prelude.{option_map, slice_get}
use Rattle.mc_semantics.specs.Resolved.Views.{function_of}
use Rattle.mc_lower.proofs.builder.Builder.function.Goals as goal

pub returns-clause-seen : goal.returns-clause-seen
returns-clause-seen c = λ w agrees.
    let functions = c.args.self.now.program.now.functions.items in
    let there = ap (λ l. slice_get l c.args.number) (sym c.deref.ensures.value)
    ∙ slice_get_read c.deref.result.now (length c.deref.result.now) c.args.number c.in-Some.function.now refl c.in-Some.ensures.lookup.3.0 c.in-Some.ensures.lookup.1 in
    ap (λ l. slice_get l c.args.number) agrees.functions ∙ slice_get-map function_of functions c.args.number ∙ ap (λ o. option_map function_of o) there

pub returns-clause-there : goal.returns-clause-there
returns-clause-there c =
    let functions = c.args.self.now.program.now.functions.items in
    let there = ap (λ l. slice_get l c.args.number) (sym c.deref.ensures.value)
    ∙ slice_get_read c.deref.result.now (length c.deref.result.now) c.args.number c.in-Some.function.now refl c.in-Some.ensures.lookup.3.0 c.in-Some.ensures.lookup.1 in
    slice_get-map function_of functions c.args.number ∙ ap (λ o. option_map function_of o) there
