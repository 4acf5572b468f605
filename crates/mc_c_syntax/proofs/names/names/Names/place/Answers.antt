use Rattle.std.proofs.Common.{ap, ◌∙◌}
use Rattle.std.specs.Prelude.{position}
use Rattle.indexmap.specs.IndexMap.{get_by}
use Rattle.mc_c_syntax.specs.Ast.Names.{is_same}
use Rattle.mc_c_syntax.proofs.names.names.Names.place.Goals as goal

pub returns : goal.returns
returns c =
    c.copied.ensures
    ∙ c.get.ensures.value
    ∙ ap (λ name. get_by (λ key. is_same name key.now) c.self.inside.firsts) c.as_slice.ensures
    ∙ c.self.invariant c.args.name.now
    ∙ ap (λ names. position (λ n. is_same n c.args.name.now) names) c.self.view_is
