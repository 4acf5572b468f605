-- Where there is no point, the first premise of each rule is unmet.
use Rattle.std.proofs.Common.{◌≡◌, None, refl}
use Rattle.std.specs.Prelude.{Err}
use Rattle.mc_base.specs.declared.ids.PointId.{PointId}
use Rattle.mc_flow.specs.declared.graph.Flow.{Flow}
use Rattle.mc_state.specs.Known.{Test}
use Rattle.mc_state.specs.State.{State}
use Rattle.mc_state.specs.declared.line.InstrRule.{InstrRule}
use Rattle.mc_state.specs.declared.line.InstrRule.TheVariants.{S1, S2, S3, S4, S5, S6, S7, S8, S9, S10, S11, S12, S13, S14, S15, S16, S17, S18}
use Rattle.mc_rules_steps.specs.Judges.{stepping_code}
use Rattle.mc_rules_steps.specs.Sums.{Ranges}

pub no_point : (know : Test) (range : Ranges) (flow : Flow) (rule : InstrRule) (p : PointId) (s : State) → stepping_code know range flow rule p None s ≡ Err 1
no_point know range flow S1 p s = refl
no_point know range flow S2 p s = refl
no_point know range flow S3 p s = refl
no_point know range flow S4 p s = refl
no_point know range flow S5 p s = refl
no_point know range flow S6 p s = refl
no_point know range flow S7 p s = refl
no_point know range flow S8 p s = refl
no_point know range flow S9 p s = refl
no_point know range flow S10 p s = refl
no_point know range flow S11 p s = refl
no_point know range flow S12 p s = refl
no_point know range flow S13 p s = refl
no_point know range flow S14 p s = refl
no_point know range flow S15 p s = refl
no_point know range flow S16 p s = refl
no_point know range flow S17 p s = refl
no_point know range flow S18 p s = refl
