use Rattle.std.proofs.Common.{ap, ◌∙◌, List}
use Rattle.std.specs.Prelude.{◌==◌, ◌&&◌, position}
use Rattle.indexmap.specs.IndexMap.{get_by}
use Rattle.mc_semantics.specs.Configs.{is_place}
use Rattle.mc_c_types.specs.declared.scope.Named.{Named}
use Rattle.mc_resolve.specs.declared.locals.PlaceKey.{PlaceKey}
use Rattle.mc_resolve.proofs.locals.Locals.find.Goals as goal

pub returns : goal.returns
returns c =
    c.copied.ensures
    ∙ c.get.ensures.value
    ∙ ap (λ (k : PlaceKey). get_by (λ key. k.line == key.line && k.column == key.column) c.self.inside.numbers) c.key_of.ensures
    ∙ c.self.invariant c.args.place
    ∙ ap (λ (vs : List Named). position (λ v. is_place v.place c.args.place) vs) c.self.view_is
