-- The rules that unfold are judged by their instances, in states that fit the definitions.
use Rattle.std.specs.Prelude.{List, Option}
use Rattle.mc_base.specs.declared.ids.EdgeId.{EdgeId}
use Rattle.mc_base.specs.declared.ids.NodeId.{NodeId}
use Rattle.mc_flow.specs.declared.defs.rules.Def.{Def}
use Rattle.mc_state.specs.Known.{Test, Tells}
use Rattle.mc_state.specs.Premises.{IsJudged}
use Rattle.mc_state.specs.Fits.{FitsDefs}
use Rattle.mc_state.specs.State.{State}
use Rattle.mc_rules_logic.specs.Unfold.Judges.{unfolding_ind, unfolding_seg}
use Rattle.mc_rules_logic.specs.Unfold.Unfolded.{UnfoldsInd, UnfoldsSeg}

-- L1 is judged by its instances
abbrev pub IndIsJudged : Type 0
IndIsJudged =
    (know : Test) (defs : List Def) (accessed : Option NodeId) (edge : EdgeId) (s : State)
    → FitsDefs defs s → Tells know s
    → IsJudged (unfolding_ind know defs accessed edge s) (UnfoldsInd defs accessed edge s)

-- L2 is judged by its instances
abbrev pub SegIsJudged : Type 0
SegIsJudged =
    (know : Test) (defs : List Def) (accessed : Option NodeId) (edge : EdgeId) (s : State)
    → FitsDefs defs s → Tells know s
    → IsJudged (unfolding_seg know defs accessed edge s) (UnfoldsSeg defs accessed edge s)
