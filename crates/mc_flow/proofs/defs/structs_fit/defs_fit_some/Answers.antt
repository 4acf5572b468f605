use Rattle.mc_flow.proofs.DefsLemmas.SomeStructs.{fit_alone, fit_some}
use Rattle.mc_flow.proofs.defs.structs_fit.defs_fit_some.Goals as goal

pub returns : goal.returns
returns c = (λ t. fit_some c.args.defs.now (c.defs_fit_alone.ensures.0 t), λ d. c.defs_fit_alone.ensures.1 (fit_alone c.args.defs.now d))
