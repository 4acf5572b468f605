use Rattle.std.specs.Prelude.{[], ◌∷◌}
use Rattle.std.proofs.Common.{refl}
use Rattle.std.specs.Int.{int_wrap}
use Rattle.mc_base.specs.declared.plain.FaultKind.TheVariants.{Uninit}
use Rattle.mc_flow.specs.Runs.{fault}
use Rattle.mc_semantics.specs.Examples.{at}
use Rattle.mc_semantics.specs.Worked.Variables.{local_function, left_by_break, left_by_continue, left_at_end, left_by_return}
use Rattle.mc_semantics.proofs.WorkedLemmas.Computed.{runs}
use Rattle.mc_semantics.proofs.worked.laws.variables_are_left.Goals as goal

pub returns-clause-left_by_break : goal.returns-clause-left_by_break
unfolding int_wrap
returns-clause-left_by_break c = runs [] left_by_break 11 (fault Uninit (at 82)) refl

pub returns-clause-left_by_continue : goal.returns-clause-left_by_continue
unfolding int_wrap
returns-clause-left_by_continue c = runs [] left_by_continue 11 (fault Uninit (at 97)) refl

pub returns-clause-left_at_end : goal.returns-clause-left_at_end
unfolding int_wrap
returns-clause-left_at_end c = runs [] left_at_end 9 (fault Uninit (at 70)) refl

pub returns-clause-left_by_return : goal.returns-clause-left_by_return
unfolding int_wrap
returns-clause-left_by_return c = runs (local_function ∷ []) left_by_return 11 (fault Uninit (at 43)) refl
