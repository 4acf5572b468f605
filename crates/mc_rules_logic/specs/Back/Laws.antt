-- What holds of the rule that unfolds a segment from its end.
use Rattle.std.specs.Prelude.{◌≡◌, List, Option}
use Rattle.std.specs.List.{AllByRecursion}
use Rattle.mc_base.specs.declared.ids.EdgeId.{EdgeId}
use Rattle.mc_base.specs.declared.ids.NodeId.{NodeId}
use Rattle.mc_base.specs.declared.plain.VarInfo.{VarInfo}
use Rattle.mc_flow.specs.declared.defs.rules.Def.{Def}
use Rattle.mc_flow.specs.declared.defs.shapes.StructInfo.{StructInfo}
use Rattle.mc_flow.specs.Defs.Conditions.{DefsFit}
use Rattle.mc_state.specs.Known.{Test, Tells}
use Rattle.mc_state.specs.Premises.{IsJudged}
use Rattle.mc_state.specs.Fits.{IsBounded, IsWellMade}
use Rattle.mc_state.specs.Rules.{IsSound}
use Rattle.mc_state.specs.State.{State}
use Rattle.mc_rules_logic.specs.Back.Judges.{unfolding_back}
use Rattle.mc_rules_logic.specs.Back.Unfolded.{UnfoldsBack}

-- an instance of L15 is sound, and its successors are bounded
abbrev pub LawOfBack : Type 0
LawOfBack =
    (defs : List Def) (accessed : Option NodeId) (edge : EdgeId) (s : State) (next : List State)
    → IsBounded s → UnfoldsBack defs accessed edge s next → IsSound defs s next × AllByRecursion IsBounded next

-- L15 gives one list of successors at most
abbrev pub BackIsDetermined : Type 0
BackIsDetermined =
    (defs : List Def) (accessed : Option NodeId) (edge : EdgeId) (s : State) (next other : List State)
    → UnfoldsBack defs accessed edge s next → UnfoldsBack defs accessed edge s other → next ≡ other

-- L15 is judged by its instances
abbrev pub BackIsJudged : Type 0
BackIsJudged =
    (know : Test) (defs : List Def) (accessed : Option NodeId) (edge : EdgeId) (s : State)
    → Tells know s → IsJudged (unfolding_back know defs accessed edge s) (UnfoldsBack defs accessed edge s)

-- what L15 makes is well made where the state is
abbrev pub BackMakesWellMade : Type 0
BackMakesWellMade =
    (defs : List Def) (vars : List VarInfo) (structs : List StructInfo) (accessed : Option NodeId) (edge : EdgeId)
    (s : State) (next : List State)
    → DefsFit structs defs → IsWellMade defs vars structs s → UnfoldsBack defs accessed edge s next
    → AllByRecursion (IsWellMade defs vars structs) next
