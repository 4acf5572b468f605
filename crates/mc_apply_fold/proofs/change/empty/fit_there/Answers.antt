use Rattle.std.proofs.Common.{sym, ◌∙◌}
use Rattle.mc_base.specs.declared.plain.Kind.TheVariants.{Ptr}
use Rattle.mc_apply_fold.proofs.change.empty.fit_there.Goals as goal

pub returns-clause-there : goal.returns-clause-there
returns-clause-there c = λ t. c.kinds_are_there.ensures c.args.s.now.kinds Ptr c.args.params.now c.args.at c.args.args.now (sym c.fit.ensures ∙ t)
