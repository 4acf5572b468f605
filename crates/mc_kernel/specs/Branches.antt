-- Branches of documents, and where lines may stand.
use Rattle.std.specs.Prelude.{◌≡◌, ◌<◌, ◌⊎◌, List, [], ◌∷◌, Bool, true, false, Option, Some, None, Contains, length, map, ◌==◌, if◌then◌else◌}
use Rattle.mc_base.specs.declared.ids.NodeId.{NodeId}
use Rattle.mc_base.specs.declared.ids.PointId.{PointId}
use Rattle.mc_base.specs.Nodes.{moved}
use Rattle.mc_flow.specs.declared.graph.Flow.{Flow}
use Rattle.mc_flow.specs.Valid.{IsSkip}
use Rattle.mc_state.specs.declared.goal.Goal.{Goal}
use Rattle.mc_state.specs.declared.line.Form.{Form}
use Rattle.mc_state.specs.declared.line.Form.TheVariants.{Certificate, Chain}
use Rattle.mc_state.specs.State.{State, unknown}
use Rattle.mc_state.specs.Facts.{instead}
use Rattle.mc_rules_steps.specs.Next.{Next}

-- a branch: where it has come to, what is known there, what it has to show where it is a side branch,
-- whether the line of an instruction stands on it, and whether it is closing
pub record Path : Type 0 where
  pub point : PointId
  pub state : State
  pub goal : Option Goal
  pub moved : Bool
  pub closing : Bool

-- a branch that begins at a point with a state
abbrev pub begins : PointId → State → Path
begins p s = record { point = p; state = s; goal = None; moved = false; closing = false }

-- the branch of the entry: no variable is known, nothing is allocated, and the state is whole
abbrev pub entry_path : Flow → Path
entry_path flow = begins (record { 0 = 0 }) (unknown (length flow.vars))

-- a state at a cut
abbrev pub Head : Type 0
Head = PointId × State

-- what lines are judged by: the form of the document, its cuts, and the states at cuts
pub record Setting : Type 0 where
  pub form : Form
  pub cuts : List PointId
  pub heads : List Head

-- the branches that a reading begins with
abbrev pub roots : Flow → List Head → List Path
roots flow heads = entry_path flow ∷ map (λ h. begins h.0 h.1) heads

-- the states at a point, in order
abbrev pub states_at : PointId → List Head → List State
states_at p [] = []
states_at p (h ∷ heads) = if h.0.0 == p.0 then h.1 ∷ states_at p heads else states_at p heads

-- cuts ascend
abbrev pub Ascend : List PointId → Type 0
Ascend [] = Unit {0}
Ascend (p ∷ []) = Unit {0}
Ascend (p ∷ q ∷ ps) = (p.0 < q.0) × Ascend (q ∷ ps)

-- cuts are ascending Skip points, and every loop head is one
pub record AreCuts (flow : Flow) (cuts : List PointId) : Type 0 where
  pub ascend : Ascend cuts
  pub skips : (p : PointId) → Contains cuts p → IsSkip flow.points p
  pub all_heads : (p : PointId) → Contains flow.heads p → Contains cuts p

-- ---- places

-- the branch is no side branch
abbrev pub IsPlain : Path → Type 0
IsPlain b = b.goal ≡ None

-- an instruction's line: no side branch, not closing, and the point is no cut, or no instruction's line stands on the branch
pub record MayStep (g : Setting) (b : Path) : Type 0 where
  pub plain : IsPlain b
  pub open_still : b.closing ≡ false
  pub before_cut : (Contains g.cuts b.point → ⊥) ⊎ (b.moved ≡ false)

-- a jump, a join or a new state: no side branch, the point is a cut, and an instruction's line stands on the branch
pub record MayCut (g : Setting) (b : Path) : Type 0 where
  pub plain : IsPlain b
  pub at_cut : Contains g.cuts b.point
  pub has_moved : b.moved ≡ true

-- the document is a chain
abbrev pub IsChain : Setting → Type 0
IsChain g = g.form ≡ Chain

-- a fold in a chain makes a branch closing, side branches aside
abbrev pub closes_by : Form → Option Goal → Bool → Bool
closes_by Certificate goal closing = closing
closes_by Chain None closing = true
closes_by Chain (Some goal) closing = closing

-- ---- what comes of lines

-- the branch that comes of an instruction: it has moved, or is a side branch with a goal
abbrev pub path_to : PointId → State → Option Goal → Path
path_to p s None = record { point = p; state = s; goal = None; moved = true; closing = false }
path_to p s (Some goal) = record { point = p; state = s; goal = Some goal; moved = false; closing = false }

-- the branch that comes of an instruction
abbrev pub path_of : Next → Path
path_of n = path_to n.point n.state n.goal

-- the branch with another state
abbrev pub with_state : Path → State → Path
with_state b s = record b { state = s }

-- the goal with one node in place of another
abbrev pub merged_goal : NodeId → NodeId → Goal → Goal
merged_goal keep gone goal =
    record { pred = goal.pred; at = moved (instead keep.0 gone.0) goal.at; args = map (moved (instead keep.0 gone.0)) goal.args }
