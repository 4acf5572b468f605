use Rattle.mc_c_parse_simple.proofs.Phrases.{then_moves, then_closes, then_stuck}
use Rattle.mc_c_parse_simple.specs.Bases.{CompletesBase, IsBaseStep}
use Rattle.std.proofs.Common.{subst}
use Rattle.mc_c_parse_simple.proofs.allocation.in_base.Goals as goal

pub returns-in-Taken : goal.returns-in-Taken
returns-in-Taken c = λ aliases e. then_moves (subst (λ s. IsBaseStep aliases (CompletesBase aliases c.args.base) c.args.token.now s) c.in-Taken.is (c.in_ok-base.ensures aliases e))

pub returns-in-Closed : goal.returns-in-Closed
returns-in-Closed c = λ aliases e. then_closes (subst (λ s. IsBaseStep aliases (CompletesBase aliases c.args.base) c.args.token.now s) c.in-Closed.is (c.in_ok-base.ensures aliases e))

pub returns-in-Stuck : goal.returns-in-Stuck
returns-in-Stuck c = λ aliases e. then_stuck (subst (λ s. IsBaseStep aliases (CompletesBase aliases c.args.base) c.args.token.now s) c.in-Stuck.is (c.in_ok-base.ensures aliases e))
