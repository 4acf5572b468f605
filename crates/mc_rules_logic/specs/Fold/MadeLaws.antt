-- What a rule makes is well made where the state before is.
use Rattle.std.specs.Prelude.{ℤ, List}
use Rattle.std.specs.List.{AllByRecursion}
use Rattle.mc_base.specs.declared.ids.EdgeId.{EdgeId}
use Rattle.mc_base.specs.declared.ids.NodeId.{NodeId}
use Rattle.mc_base.specs.declared.ids.PredId.{PredId}
use Rattle.mc_base.specs.declared.plain.Kind.{Kind}
use Rattle.mc_base.specs.declared.plain.VarInfo.{VarInfo}
use Rattle.mc_flow.specs.Defs.Conditions.{IsDefs}
use Rattle.mc_flow.specs.declared.defs.rules.Def.{Def}
use Rattle.mc_flow.specs.declared.defs.shapes.StructInfo.{StructInfo}
use Rattle.mc_state.specs.declared.line.FoldInd.{FoldInd}
use Rattle.mc_state.specs.declared.line.FoldSeg.{FoldSeg}
use Rattle.mc_state.specs.State.{State}
use Rattle.mc_state.specs.Fits.{IsWellMade}
use Rattle.mc_rules_logic.specs.Fold.Folded.{FoldsInd, FoldsSeg, ClosesSeg, JoinsSegs, MakesEmptySeg}
use Rattle.mc_rules_logic.specs.Fold.Changed.{NamesSpare, MergesNodes, DropsEdge, ForgetsNode}

-- where the state is well made, so are these
abbrev pub StayWellMade : List Def → List VarInfo → List StructInfo → State → List State → Type 0
StayWellMade defs vars structs s next = IsWellMade defs vars structs s → AllByRecursion (IsWellMade defs vars structs) next

-- what L3 makes is well made, where the definitions are
abbrev pub FoldIndStaysMade : Type 0
FoldIndStaysMade =
    (defs : List Def) (vars : List VarInfo) (structs : List StructInfo) (fold : FoldInd) (s : State) (next : List State)
    → IsDefs defs → FoldsInd defs fold s next → StayWellMade defs vars structs s next

-- what L4 makes is well made, where the definitions are
abbrev pub FoldSegStaysMade : Type 0
FoldSegStaysMade =
    (defs : List Def) (vars : List VarInfo) (structs : List StructInfo) (fold : FoldSeg) (s : State) (next : List State)
    → IsDefs defs → FoldsSeg defs fold s next → StayWellMade defs vars structs s next

-- what L5 makes is well made
abbrev pub CloseSegStaysMade : Type 0
CloseSegStaysMade =
    (defs : List Def) (vars : List VarInfo) (structs : List StructInfo) (first second : EdgeId) (s : State) (next : List State)
    → ClosesSeg first second s next → StayWellMade defs vars structs s next

-- what L6 makes is well made
abbrev pub JoinSegsStaysMade : Type 0
JoinSegsStaysMade =
    (defs : List Def) (vars : List VarInfo) (structs : List StructInfo) (first second : EdgeId) (s : State) (next : List State)
    → JoinsSegs first second s next → StayWellMade defs vars structs s next

-- what L7 makes is well made
abbrev pub EmptySegStaysMade : Type 0
EmptySegStaysMade =
    (defs : List Def) (vars : List VarInfo) (structs : List StructInfo) (pred : PredId) (at : NodeId)
    (args : List NodeId) (stop : NodeId) (ends : List NodeId) (s : State) (next : List State)
    → MakesEmptySeg defs pred at args stop ends s next → StayWellMade defs vars structs s next

-- what L8 makes is well made
abbrev pub SpareStaysMade : Type 0
SpareStaysMade =
    (defs : List Def) (vars : List VarInfo) (structs : List StructInfo) (node : NodeId) (add : ℤ) (kind : Kind)
    (s : State) (next : List State)
    → NamesSpare node add kind s next → StayWellMade defs vars structs s next

-- what L9 makes is well made
abbrev pub MergeStaysMade : Type 0
MergeStaysMade =
    (defs : List Def) (vars : List VarInfo) (structs : List StructInfo) (keep gone : NodeId) (s : State) (next : List State)
    → MergesNodes keep gone s next → StayWellMade defs vars structs s next

-- what L10 makes is well made
abbrev pub DropStaysMade : Type 0
DropStaysMade =
    (defs : List Def) (vars : List VarInfo) (structs : List StructInfo) (edge : EdgeId) (s : State) (next : List State)
    → DropsEdge edge s next → StayWellMade defs vars structs s next

-- what L11 makes is well made
abbrev pub ForgetStaysMade : Type 0
ForgetStaysMade =
    (defs : List Def) (vars : List VarInfo) (structs : List StructInfo) (node : NodeId) (s : State) (next : List State)
    → ForgetsNode node s next → StayWellMade defs vars structs s next
