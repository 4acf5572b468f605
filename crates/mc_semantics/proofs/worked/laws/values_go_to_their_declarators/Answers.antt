use Rattle.std.specs.Prelude.{[], ◌∷◌}
use Rattle.std.proofs.Common.{refl}
use Rattle.std.specs.Int.{int_wrap}
use Rattle.mc_base.specs.declared.plain.FaultKind.TheVariants.{Assertion, Uninit}
use Rattle.mc_flow.specs.Runs.{ended, fault}
use Rattle.mc_semantics.specs.Examples.{at}
use Rattle.mc_semantics.specs.Worked.Variables.{same_function, hidden_by_head, hiding_ends, hidden_result, own_value, own_undefined, one_after_other}
use Rattle.mc_semantics.proofs.WorkedLemmas.Computed.{runs}
use Rattle.mc_semantics.proofs.worked.laws.values_go_to_their_declarators.Goals as goal

pub returns-clause-hidden_by_head : goal.returns-clause-hidden_by_head
unfolding int_wrap
returns-clause-hidden_by_head c = runs [] hidden_by_head 6 (fault Assertion (at 60)) refl

pub returns-clause-hiding_ends : goal.returns-clause-hiding_ends
unfolding int_wrap
returns-clause-hiding_ends c = runs [] hiding_ends 7 ended refl

pub returns-clause-hidden_result : goal.returns-clause-hidden_result
unfolding int_wrap
returns-clause-hidden_result c = runs (same_function ∷ []) hidden_result 9 ended refl

pub returns-clause-own_value : goal.returns-clause-own_value
unfolding int_wrap
returns-clause-own_value c = runs [] own_value 12 ended refl

pub returns-clause-own_undefined : goal.returns-clause-own_undefined
unfolding int_wrap
returns-clause-own_undefined c = runs [] own_undefined 2 (fault Uninit (at 26)) refl

pub returns-clause-one_after_other : goal.returns-clause-one_after_other
unfolding int_wrap
returns-clause-one_after_other c = runs [] one_after_other 4 ended refl
