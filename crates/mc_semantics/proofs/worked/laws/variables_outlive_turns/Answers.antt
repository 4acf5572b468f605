use Rattle.std.specs.Prelude.{[]}
use Rattle.std.proofs.Common.{refl}
use Rattle.std.specs.Int.{int_wrap}
use Rattle.mc_base.specs.declared.plain.FaultKind.TheVariants.{Uninit}
use Rattle.mc_flow.specs.Runs.{ended, fault}
use Rattle.mc_semantics.specs.Examples.{at}
use Rattle.mc_semantics.specs.Worked.Variables.{kept_in_turns, kept_for_condition, never_reached}
use Rattle.mc_semantics.proofs.WorkedLemmas.Computed.{runs}
use Rattle.mc_semantics.proofs.worked.laws.variables_outlive_turns.Goals as goal

pub returns-clause-kept_in_turns : goal.returns-clause-kept_in_turns
unfolding int_wrap
returns-clause-kept_in_turns c = runs [] kept_in_turns 12 ended refl

pub returns-clause-kept_for_condition : goal.returns-clause-kept_for_condition
unfolding int_wrap
returns-clause-kept_for_condition c = runs [] kept_for_condition 4 ended refl

pub returns-clause-never_reached : goal.returns-clause-never_reached
unfolding int_wrap
returns-clause-never_reached c = runs [] never_reached 2 (fault Uninit (at 38)) refl
