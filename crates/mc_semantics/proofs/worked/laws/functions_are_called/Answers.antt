use Rattle.std.specs.Prelude.{[], ◌∷◌}
use Rattle.std.proofs.Common.{refl}
use Rattle.std.specs.Int.{int_wrap}
use Rattle.mc_base.specs.declared.plain.FaultKind.TheVariants.{Null, Uninit}
use Rattle.mc_flow.specs.Runs.{ended, fault, stopped}
use Rattle.mc_semantics.specs.Examples.{at}
use Rattle.mc_semantics.specs.Worked.Turns.{find_function, minus_function, none_function, spin_function, stop_function, result_in_order, argument_undefined, field_before_argument, returned_without, stopped_within, called_in_turns, returned_from_loops}
use Rattle.mc_semantics.proofs.WorkedLemmas.Computed.{runs}
use Rattle.mc_semantics.proofs.worked.laws.functions_are_called.Goals as goal

pub returns-clause-result_in_order : goal.returns-clause-result_in_order
unfolding int_wrap
returns-clause-result_in_order c = runs (minus_function ∷ []) result_in_order 7 ended refl

pub returns-clause-argument_undefined : goal.returns-clause-argument_undefined
unfolding int_wrap
returns-clause-argument_undefined c = runs (minus_function ∷ []) argument_undefined 2 (fault Uninit (at 62)) refl

pub returns-clause-field_before_argument : goal.returns-clause-field_before_argument
unfolding int_wrap
returns-clause-field_before_argument c = runs (minus_function ∷ []) field_before_argument 3 (fault Null (at 85)) refl

pub returns-clause-returned_without : goal.returns-clause-returned_without
unfolding int_wrap
returns-clause-returned_without c = runs (none_function ∷ []) returned_without 5 (fault Uninit (at 59)) refl

pub returns-clause-stopped_within : goal.returns-clause-stopped_within
unfolding int_wrap
returns-clause-stopped_within c = runs (stop_function ∷ []) stopped_within 4 stopped refl

pub returns-clause-called_in_turns : goal.returns-clause-called_in_turns
unfolding int_wrap
returns-clause-called_in_turns c = runs (spin_function ∷ []) called_in_turns 12 ended refl

pub returns-clause-returned_from_loops : goal.returns-clause-returned_from_loops
unfolding int_wrap
returns-clause-returned_from_loops c = runs (find_function ∷ []) returned_from_loops 17 ended refl
