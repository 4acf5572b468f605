use Rattle.mc_def_read.proofs.Folds.{drop_at, fold_step, fold_fails}
use Rattle.mc_def_read.specs.Judging.{parameters, introduced}
use Rattle.std.proofs.Common.{◌∙◌, refl}
use Rattle.mc_def_read.specs.Scopes.{scope_of}
use Rattle.std.proofs.lemmas.Result.{err_from_is_err_and}
use Rattle.mc_def_read.proofs.kept.Scope.parameters.Goals as goal

pub returns-in_err-introduce-clause-found : goal.returns-in_err-introduce-clause-found
returns-in_err-introduce-clause-found c = let p = err_from_is_err_and c.from_residual.result c.from_residual.ensures.1 in rw (p.1, p.2) (fold_fails parameters (λ s p. introduced s p.kind p.name) (λ s x xs. refl) {B = Unit {0}} {C = Unit {0}} _ c.param-item.result _ _ _ (λ u. scope_of c.loop-param.self) (λ u. scope_of c.loop-param.self) c.in_err-introduce.field-0.0 c.loop-param.invariant.1 (drop_at _ _ _ c.loop-param-test.true c.param-item.is) c.in_err-introduce.ensures.found)

pub loop-param-preserved : goal.loop-param-preserved
loop-param-preserved c = (c.in_ok-introduce.ensures.front ∙ c.loop-param.invariant.0, c.loop-param.invariant.1 ∙ fold_step parameters (λ s p. introduced s p.kind p.name) (λ s x xs. refl) _ _ c.param-item.result _ _ (drop_at _ _ _ c.loop-param-test.true c.param-item.is) c.in_ok-introduce.ensures.found)
