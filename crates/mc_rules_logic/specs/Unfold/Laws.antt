-- What holds of the rules that unfold.
use Rattle.std.specs.Prelude.{◌≡◌, List, Option}
use Rattle.std.specs.List.{AllByRecursion}
use Rattle.mc_base.specs.declared.ids.EdgeId.{EdgeId}
use Rattle.mc_base.specs.declared.ids.NodeId.{NodeId}
use Rattle.mc_flow.specs.declared.defs.rules.Def.{Def}
use Rattle.mc_state.specs.State.{State}
use Rattle.mc_state.specs.Fits.{IsBounded}
use Rattle.mc_state.specs.Rules.{IsSound}
use Rattle.mc_rules_logic.specs.Unfold.Unfolded.{UnfoldsInd, UnfoldsSeg}

-- a rule gives only successors that are sound and bounded, and one list of them
abbrev pub LawOfInd : Type 0
LawOfInd =
    (defs : List Def) (accessed : Option NodeId) (edge : EdgeId) (s : State) (next : List State)
    → IsBounded s → UnfoldsInd defs accessed edge s next → IsSound defs s next × AllByRecursion IsBounded next

-- an instance of L2 is sound, and its successors are bounded
abbrev pub LawOfSeg : Type 0
LawOfSeg =
    (defs : List Def) (accessed : Option NodeId) (edge : EdgeId) (s : State) (next : List State)
    → IsBounded s → UnfoldsSeg defs accessed edge s next → IsSound defs s next × AllByRecursion IsBounded next

-- L1 gives one list of successors at most
abbrev pub IndIsDetermined : Type 0
IndIsDetermined =
    (defs : List Def) (accessed : Option NodeId) (edge : EdgeId) (s : State) (next other : List State)
    → UnfoldsInd defs accessed edge s next → UnfoldsInd defs accessed edge s other → next ≡ other

-- L2 gives one list of successors at most
abbrev pub SegIsDetermined : Type 0
SegIsDetermined =
    (defs : List Def) (accessed : Option NodeId) (edge : EdgeId) (s : State) (next other : List State)
    → UnfoldsSeg defs accessed edge s next → UnfoldsSeg defs accessed edge s other → next ≡ other
