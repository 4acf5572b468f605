-- The tracks of open branches on a stack, and how many branches come of a line.
use Rattle.std.specs.Prelude.{◌==◌, ◌+◌, ◌++◌, ℕ, suc, Bool, true, false, List, [], ◌∷◌, Option, Some, None, if◌then◌else◌, length, map, option_map, replicate, reverse, slice_get, unwrap_or}
use Rattle.mc_base.specs.declared.ids.NodeId.{NodeId}
use Rattle.mc_base.specs.declared.ids.PredId.{PredId}
use Rattle.mc_flow.specs.declared.defs.rules.Call.{Call}
use Rattle.mc_flow.specs.declared.defs.rules.Def.{Def}
use Rattle.mc_flow.specs.declared.defs.rules.Rule.{Rule}
use Rattle.mc_state.specs.declared.graph.edge.Edge.{Edge}
use Rattle.mc_state.specs.declared.graph.edge.Edge.TheVariants.{Ind, Seg}
use Rattle.mc_state.specs.declared.line.InstrRule.{InstrRule}
use Rattle.mc_state.specs.declared.line.InstrRule.TheVariants.{S10, S13, S14, S16, S17}
use Rattle.mc_state.specs.Graph.Graph.{edge_with}
use Rattle.mc_state.specs.State.{State}
use Rattle.mc_lines.specs.declared.cert.line.Line.{Line}
use Rattle.mc_lines.specs.declared.cert.line.Line.TheVariants as line
use Rattle.mc_exact.specs.Exact.{Picks}
use Rattle.mc_exact.specs.Marks.{keeps_exact}
use Rattle.mc_follow.specs.declared.alarms.tracks.Picked.{Picked}

-- the track that is held
abbrev pub held : Option Picked → Option Picks
held track = option_map (λ t. t.picks.items) track

-- the tracks on a stack, the last first
abbrev pub in_order : List (Option Picked) → List (Option Picks)
in_order stack = map held (reverse stack)

-- the line is that of an allocation
abbrev pub is_allocation : Line → Bool
is_allocation (line.Step S10) = true
is_allocation other = false

-- the tracks of so many branches that come of a line at one with this track, at an allocation with this new node
abbrev pub tracks_after : Line → NodeId → Option Picks → ℕ → List (Option Picks)
tracks_after l node None count = replicate count None
tracks_after l node (Some picks) count =
    if is_allocation l then Some (picks ++ None ∷ []) ∷ Some (picks ++ Some node ∷ []) ∷ [] else
    (if keeps_exact l then replicate count (Some picks) else replicate count None)

-- ---- how many branches come of a line

-- how many calls are of the predicate
abbrev pub own_calls : PredId → List Call → ℕ
own_calls pred [] = 0
own_calls pred (call ∷ calls) = if call.pred.0 == pred.0 then suc (own_calls pred calls) else own_calls pred calls

-- the same of rules
abbrev pub own_calls_in : PredId → List Rule → ℕ
own_calls_in pred [] = 0
own_calls_in pred (rule ∷ rules) = own_calls pred rule.calls + own_calls_in pred rules

-- the rules of a predicate
abbrev pub rules_of : List Def → PredId → List Rule
rules_of defs pred = unwrap_or (option_map (λ def. def.rules) (slice_get defs pred.0)) []

-- what comes of an edge that is unfolded: of an Ind a branch for each rule, of a Seg one more than its rules have calls of its
-- predicate
abbrev pub unfold_count : List Def → Option Edge → ℕ
unfold_count defs (Some (Ind at pred args)) = length (rules_of defs pred)
unfold_count defs (Some (Seg at args pred stop ends)) = suc (own_calls_in pred (rules_of defs pred))
unfold_count defs other = 0

-- of an instruction two come where it allocates, tests, or asserts a shape
abbrev pub step_count : InstrRule → ℕ
step_count S10 = 2
step_count S13 = 2
step_count S14 = 2
step_count S16 = 2
step_count S17 = 0
step_count other = 1

-- how many branches come of a line at a state
abbrev pub come : List Def → State → Line → ℕ
come defs s (line.Step rule) = step_count rule
come defs s (line.L1 edge) = unfold_count defs (edge_with s.graph.edges edge)
come defs s (line.L2 edge) = unfold_count defs (edge_with s.graph.edges edge)
come defs s (line.L15 edge) = unfold_count defs (edge_with s.graph.edges edge)
come defs s line.L12 = 0
come defs s (line.L13 j images edges) = 0
come defs s (line.L14 edge) = 0
come defs s line.C1 = 0
come defs s other = 1
