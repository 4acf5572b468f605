-- The rules are judged by their instances.
use Rattle.std.specs.Prelude.{◌≡◌, ◌↔◌, ℕ, ℤ, true, Err, List}
use Rattle.mc_base.specs.declared.ids.EdgeId.{EdgeId}
use Rattle.mc_base.specs.declared.ids.NodeId.{NodeId}
use Rattle.mc_base.specs.declared.ids.PredId.{PredId}
use Rattle.mc_base.specs.declared.plain.Kind.{Kind}
use Rattle.mc_base.specs.declared.plain.Atom.{Atom}
use Rattle.mc_flow.specs.declared.defs.rules.Def.{Def}
use Rattle.mc_state.specs.declared.goal.Goal.{Goal}
use Rattle.mc_state.specs.declared.line.FoldInd.{FoldInd}
use Rattle.mc_state.specs.declared.line.FoldSeg.{FoldSeg}
use Rattle.mc_state.specs.State.{State}
use Rattle.mc_state.specs.Facts.{IsReached}
use Rattle.mc_state.specs.Fits.{IsBounded}
use Rattle.mc_state.specs.Premises.{Judged, IsJudged}
use Rattle.mc_state.specs.Known.{Test, Tells}
use Rattle.mc_rules_logic.specs.Fold.Folded.{FoldsInd, FoldsSeg, ClosesSeg, JoinsSegs, MakesEmptySeg}
use Rattle.mc_rules_logic.specs.Fold.Changed.{NamesSpare, MergesNodes, DropsEdge, ForgetsNode, IsListWithout}
use Rattle.mc_rules_logic.specs.Fold.Goals.{MeetsGoal}
use Rattle.mc_rules_logic.specs.Fold.Judges.{folding_ind, folding_seg, closing_seg, joining_segs, making_seg, meeting_goal}
use Rattle.mc_rules_logic.specs.Fold.ChangeJudges.{naming_spare, merging_nodes, is_reached, dropping_edge, forgetting_node}

-- by whatever test tells what is entailed in the state, premise k is the first that is unmet
abbrev pub FailsAt : {A : Type 0} → State → (Test → State → Judged A) → ℕ → Type 0
FailsAt s judge k = (know : Test) → Tells know s → judge know s ≡ Err k

-- L3 is judged by its instances
abbrev pub FoldIndIsJudged : Type 0
FoldIndIsJudged =
    (know : Test) (defs : List Def) (fold : FoldInd) (s : State)
    → IsBounded s → Tells know s → IsJudged (folding_ind know defs fold s) (FoldsInd defs fold s)

-- L4 is judged by its instances
abbrev pub FoldSegIsJudged : Type 0
FoldSegIsJudged =
    (know : Test) (defs : List Def) (fold : FoldSeg) (s : State)
    → IsBounded s → Tells know s → IsJudged (folding_seg know defs fold s) (FoldsSeg defs fold s)

-- L5 is judged by its instances
abbrev pub CloseSegIsJudged : Type 0
CloseSegIsJudged =
    (know : Test) (first second : EdgeId) (s : State) → IsBounded s → Tells know s
    → IsJudged (closing_seg know first second s) (ClosesSeg first second s)

-- L6 is judged by its instances
abbrev pub JoinSegsIsJudged : Type 0
JoinSegsIsJudged =
    (know : Test) (first second : EdgeId) (s : State) → IsBounded s → Tells know s
    → IsJudged (joining_segs know first second s) (JoinsSegs first second s)

-- L7 is judged by its instances
abbrev pub EmptySegIsJudged : Type 0
EmptySegIsJudged =
    (know : Test) (defs : List Def) (pred : PredId) (at : NodeId) (args : List NodeId) (stop : NodeId) (ends : List NodeId) (s : State)
    → Tells know s → IsJudged (making_seg know defs pred at args stop ends s) (MakesEmptySeg defs pred at args stop ends s)

-- L8 is judged by its instances
abbrev pub SpareIsJudged : Type 0
SpareIsJudged = (know : Test) (node : NodeId) (add : ℤ) (kind : Kind) (s : State) → Tells know s
    → IsJudged (naming_spare know node add kind s) (NamesSpare node add kind s)

-- L9 is judged by its instances
abbrev pub MergeIsJudged : Type 0
MergeIsJudged = (know : Test) (keep gone : NodeId) (s : State) → Tells know s
    → IsJudged (merging_nodes know keep gone s) (MergesNodes keep gone s)

-- the nodes that are reached are those that the judge finds
abbrev pub ReachedIsTold : Type 0
ReachedIsTold = (know : Test) (s : State) (n : NodeId) → IsBounded s → Tells know s → (is_reached know s n ≡ true) ↔ IsReached s n

-- L10 is judged by its instances
abbrev pub DropIsJudged : Type 0
DropIsJudged = (know : Test) (edge : EdgeId) (s : State) → IsBounded s → Tells know s
    → IsJudged (dropping_edge know edge s) (DropsEdge edge s)

-- L11 is judged by its instances, where the atoms are those that are written
abbrev pub ForgetIsJudged : Type 0
ForgetIsJudged =
    (know : Test) (atoms : List Atom) (node : NodeId) (s : State)
    → Tells know s → IsListWithout node s atoms → IsJudged (forgetting_node know atoms node s) (ForgetsNode node s)

-- L14 is judged by its instances
abbrev pub GoalIsJudged : Type 0
GoalIsJudged = (know : Test) (goal : Goal) (edge : EdgeId) (s : State) → Tells know s
    → IsJudged (meeting_goal know goal edge s) (λ done. MeetsGoal goal edge s)
