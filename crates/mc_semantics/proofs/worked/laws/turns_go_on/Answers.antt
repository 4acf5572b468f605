use Rattle.std.specs.Prelude.{[]}
use Rattle.std.proofs.Common.{refl}
use Rattle.std.specs.Int.{int_wrap}
use Rattle.mc_flow.specs.Runs.{ended}
use Rattle.mc_semantics.specs.Worked.Turns.{going_on_in_do, going_on_in_for, going_on_within, broken_within, without_condition}
use Rattle.mc_semantics.proofs.WorkedLemmas.Computed.{runs}
use Rattle.mc_semantics.proofs.worked.laws.turns_go_on.Goals as goal

pub returns-clause-going_on_in_do : goal.returns-clause-going_on_in_do
unfolding int_wrap
returns-clause-going_on_in_do c = runs [] going_on_in_do 8 ended refl

pub returns-clause-going_on_in_for : goal.returns-clause-going_on_in_for
unfolding int_wrap
returns-clause-going_on_in_for c = runs [] going_on_in_for 10 ended refl

pub returns-clause-going_on_within : goal.returns-clause-going_on_within
unfolding int_wrap
returns-clause-going_on_within c = runs [] going_on_within 17 ended refl

pub returns-clause-broken_within : goal.returns-clause-broken_within
unfolding int_wrap
returns-clause-broken_within c = runs [] broken_within 13 ended refl

pub returns-clause-without_condition : goal.returns-clause-without_condition
unfolding int_wrap
returns-clause-without_condition c = runs [] without_condition 10 ended refl
