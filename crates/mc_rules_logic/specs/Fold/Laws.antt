-- What holds of the rules that fold, name, merge and drop.
use Rattle.std.specs.Prelude.{◌≡◌, ℤ, List, Option}
use Rattle.std.specs.List.{AllByRecursion}
use Rattle.mc_base.specs.declared.ids.EdgeId.{EdgeId}
use Rattle.mc_base.specs.declared.ids.NodeId.{NodeId}
use Rattle.mc_base.specs.declared.ids.PredId.{PredId}
use Rattle.mc_base.specs.declared.plain.Kind.{Kind}
use Rattle.mc_base.specs.Nodes.{Valuation}
use Rattle.mc_flow.specs.Heap.Heap.{Region, IsAtAddresses}
use Rattle.mc_flow.specs.declared.defs.rules.Def.{Def}
use Rattle.mc_state.specs.declared.goal.Goal.{Goal}
use Rattle.mc_state.specs.declared.line.FoldInd.{FoldInd}
use Rattle.mc_state.specs.declared.line.FoldSeg.{FoldSeg}
use Rattle.mc_state.specs.State.{State}
use Rattle.mc_state.specs.Fits.{IsBounded}
use Rattle.mc_state.specs.Stands.{StandsBy}
use Rattle.mc_state.specs.Rules.{IsSound, GoalHolds}
use Rattle.mc_rules_logic.specs.Fold.Folded.{FoldsInd, FoldsSeg, ClosesSeg, JoinsSegs, MakesEmptySeg}
use Rattle.mc_rules_logic.specs.Fold.Changed.{NamesSpare, MergesNodes, DropsEdge, ForgetsNode}
use Rattle.mc_rules_logic.specs.Fold.Goals.{MeetsGoal}

-- an instance of a rule: whatever stands for the state stands for a successor, and the successors' numbers are in their bounds
abbrev pub IsLawful : List Def → State → List State → Type 0
IsLawful defs s next = IsSound defs s next × AllByRecursion IsBounded next

-- an instance of L3 is lawful
abbrev pub LawOfFoldInd : Type 0
LawOfFoldInd =
    (defs : List Def) (fold : FoldInd) (s : State) (next : List State)
    → IsBounded s → FoldsInd defs fold s next → IsLawful defs s next

-- an instance of L4 is lawful
abbrev pub LawOfFoldSeg : Type 0
LawOfFoldSeg =
    (defs : List Def) (fold : FoldSeg) (s : State) (next : List State)
    → IsBounded s → FoldsSeg defs fold s next → IsLawful defs s next

-- an instance of L5 is lawful
abbrev pub LawOfCloseSeg : Type 0
LawOfCloseSeg = (defs : List Def) (first second : EdgeId) (s : State) (next : List State) → IsBounded s
    → ClosesSeg first second s next → IsLawful defs s next

-- an instance of L6 is lawful
abbrev pub LawOfJoinSegs : Type 0
LawOfJoinSegs = (defs : List Def) (first second : EdgeId) (s : State) (next : List State) → IsBounded s
    → JoinsSegs first second s next → IsLawful defs s next

-- an instance of L7 is lawful
abbrev pub LawOfEmptySeg : Type 0
LawOfEmptySeg =
    (defs : List Def) (pred : PredId) (at : NodeId) (args : List NodeId) (stop : NodeId) (ends : List NodeId)
    (s : State) (next : List State)
    → IsBounded s → MakesEmptySeg defs pred at args stop ends s next → IsLawful defs s next

-- an instance of L8 is lawful
abbrev pub LawOfSpare : Type 0
LawOfSpare = (defs : List Def) (node : NodeId) (add : ℤ) (kind : Kind) (s : State) (next : List State) → IsBounded s
    → NamesSpare node add kind s next → IsLawful defs s next

-- where two nodes are merged, both had the value that the one keeps
abbrev pub LawOfMerge : Type 0
LawOfMerge =
    (defs : List Def) (keep gone : NodeId) (s : State) (next : List State) → IsBounded s → MergesNodes keep gone s next
    → IsLawful defs s next
    × ((v : Valuation) (values : List (Option ℤ)) (region : Region) → IsAtAddresses region
    → StandsBy defs v values region s → v gone.0 ≡ v keep.0)

-- an instance of L10 is lawful
abbrev pub LawOfDrop : Type 0
LawOfDrop = (defs : List Def) (edge : EdgeId) (s : State) (next : List State) → IsBounded s → DropsEdge edge s next → IsLawful defs s next

-- an instance of L11 is lawful
abbrev pub LawOfForget : Type 0
LawOfForget = (defs : List Def) (node : NodeId) (s : State) (next : List State) → IsBounded s
    → ForgetsNode node s next → IsLawful defs s next

-- a side branch whose goal an Ind meets: the goal holds on some part of the memory
abbrev pub LawOfGoal : Type 0
LawOfGoal =
    (defs : List Def) (goal : Goal) (edge : EdgeId) (s : State) (v : Valuation) (values : List (Option ℤ)) (region : Region)
    → IsAtAddresses region → MeetsGoal goal edge s → StandsBy defs v values region s → GoalHolds defs v region goal

-- ---- one list of successors at most

-- L3 gives one list of successors at most
abbrev pub FoldIndIsDetermined : Type 0
FoldIndIsDetermined =
    (defs : List Def) (fold : FoldInd) (s : State) (next other : List State)
    → FoldsInd defs fold s next → FoldsInd defs fold s other → next ≡ other

-- L4 gives one list of successors at most
abbrev pub FoldSegIsDetermined : Type 0
FoldSegIsDetermined =
    (defs : List Def) (fold : FoldSeg) (s : State) (next other : List State)
    → FoldsSeg defs fold s next → FoldsSeg defs fold s other → next ≡ other

-- L5 gives one list of successors at most
abbrev pub CloseSegIsDetermined : Type 0
CloseSegIsDetermined = (first second : EdgeId) (s : State) (next other : List State) → ClosesSeg first second s next
    → ClosesSeg first second s other → next ≡ other

-- L6 gives one list of successors at most
abbrev pub JoinSegsIsDetermined : Type 0
JoinSegsIsDetermined = (first second : EdgeId) (s : State) (next other : List State) → JoinsSegs first second s next
    → JoinsSegs first second s other → next ≡ other

-- L7 gives one list of successors at most
abbrev pub EmptySegIsDetermined : Type 0
EmptySegIsDetermined =
    (defs : List Def) (pred : PredId) (at : NodeId) (args : List NodeId) (stop : NodeId) (ends : List NodeId)
    (s : State) (next other : List State)
    → MakesEmptySeg defs pred at args stop ends s next → MakesEmptySeg defs pred at args stop ends s other → next ≡ other

-- L8 gives one list of successors at most
abbrev pub SpareIsDetermined : Type 0
SpareIsDetermined = (node : NodeId) (add : ℤ) (kind : Kind) (s : State) (next other : List State)
    → NamesSpare node add kind s next → NamesSpare node add kind s other → next ≡ other

-- L9 gives one list of successors at most
abbrev pub MergeIsDetermined : Type 0
MergeIsDetermined = (keep gone : NodeId) (s : State) (next other : List State) → MergesNodes keep gone s next
    → MergesNodes keep gone s other → next ≡ other

-- L10 gives one list of successors at most
abbrev pub DropIsDetermined : Type 0
DropIsDetermined = (edge : EdgeId) (s : State) (next other : List State) → DropsEdge edge s next → DropsEdge edge s other → next ≡ other

-- L11 gives one list of successors at most
abbrev pub ForgetIsDetermined : Type 0
ForgetIsDetermined = (node : NodeId) (s : State) (next other : List State) → ForgetsNode node s next
    → ForgetsNode node s other → next ≡ other
