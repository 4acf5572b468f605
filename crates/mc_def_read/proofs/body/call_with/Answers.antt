use Rattle.mc_def_read.proofs.Sayings.{finds_same, first_rest, mapped_long, call_with_more}
use Rattle.mc_def_read.specs.Scopes.{scope_of}
use Rattle.std.proofs.Common.{map, ◌∙◌}
use Rattle.mc_def_read.proofs.body.call_with.Goals as goal

pub returns-in-len1-up : goal.returns-in-len1-up
returns-in-len1-up c = finds_same _ _ _ _ (call_with_more (scope_of c.args.scope.now) c.args.pred (map (λ p. p.kind) c.args.params.now) c.args.name.now c.first-item.result c.args.args.now _ (first_rest _ _ c.in-len1-up.len_at_least c.first-item.is) (c.if-rest-params.true ∙ mapped_long (λ p. p.kind) c.args.params.now)) c.call_at.ensures
