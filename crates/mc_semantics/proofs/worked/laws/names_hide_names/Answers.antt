use Rattle.std.specs.Prelude.{[], ◌∷◌}
use Rattle.std.proofs.Common.{refl}
use Rattle.std.specs.Int.{int_wrap}
use Rattle.mc_flow.specs.Runs.{ended}
use Rattle.mc_semantics.specs.Worked.Variables.{inner_function, hiding_outer, hiding_head, hiding_parameter}
use Rattle.mc_semantics.proofs.WorkedLemmas.Computed.{runs}
use Rattle.mc_semantics.proofs.worked.laws.names_hide_names.Goals as goal

pub returns-clause-hiding_outer : goal.returns-clause-hiding_outer
unfolding int_wrap
returns-clause-hiding_outer c = runs [] hiding_outer 5 ended refl

pub returns-clause-hiding_head : goal.returns-clause-hiding_head
unfolding int_wrap
returns-clause-hiding_head c = runs [] hiding_head 7 ended refl

pub returns-clause-hiding_parameter : goal.returns-clause-hiding_parameter
unfolding int_wrap
returns-clause-hiding_parameter c = runs (inner_function ∷ []) hiding_parameter 7 ended refl
