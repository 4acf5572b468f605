-- Configurations that are exactly what a state says by a valuation.
use Rattle.std.specs.Prelude.{◌≡◌, ◌≢◌, ℕ, ◌≤◌, ◌+◌, true, ℤ, pos, ◌≤ℤ◌, Option, Some, None, List, [], ◌∷◌, map, option_map, if◌then◌else◌}
use Rattle.std.specs.List.{AllByRecursion}
use Rattle.std.specs.Ordering.{int_eq}
use Rattle.mc_base.specs.declared.ids.NodeId.{NodeId}
use Rattle.mc_base.specs.declared.ids.PointId.{PointId}
use Rattle.mc_base.specs.Atoms.{IsTrueAtom}
use Rattle.mc_base.specs.Kinds.{InKind}
use Rattle.mc_base.specs.Nodes.{Valuation, at_node}
use Rattle.mc_flow.specs.Heap.Heap.{Block, region_of}
use Rattle.mc_flow.specs.Heap.Choices.{Choice, malloc}
use Rattle.mc_flow.specs.declared.defs.rules.Def.{Def}
use Rattle.mc_flow.specs.declared.graph.Flow.{Flow}
use Rattle.mc_flow.specs.Runs.{Final, Reaches}
use Rattle.mc_flow.specs.Steps.{Config, Step, start}
use Rattle.mc_flow.specs.Values.{address}
use Rattle.mc_state.specs.declared.graph.edge.Edge.{Edge}
use Rattle.mc_state.specs.declared.graph.edge.Edge.TheVariants as edge
use Rattle.mc_state.specs.Graph.Graph.{Edges, block_starts}
use Rattle.mc_state.specs.State.{State}
use Rattle.mc_exact.specs.Exact.{Picks}

-- each has the number of its node, and what is unknown is undefined
abbrev pub values_by : Valuation → List (Option NodeId) → List (Option ℤ)
values_by v ns = map (option_map (at_node v)) ns

-- what an address holds by the edges, of which blocks alone hold something
abbrev pub stored : Valuation → Edges → ℕ → Option Block
stored v [] at = None
stored v ((id, edge.Block n shape fields) ∷ es) at =
    if int_eq (v n.0) (pos at) then Some (record { shape = shape.0; fields = values_by v fields }) else stored v es at
stored v ((id, edge.Ind n pred args) ∷ es) at = stored v es at
stored v ((id, edge.Seg n args pred «end» ends) ∷ es) at = stored v es at

-- the edge is a block
abbrev pub IsBlock : Edge → Type 0
IsBlock (edge.Block n shape fields) = Unit {0}
IsBlock (edge.Ind n pred args) = ⊥
IsBlock (edge.Seg n args pred «end» ends) = ⊥

-- the configuration is what the state says, and no more
pub record IsExactly (v : Valuation) (c : Config) (p : PointId) (s : State) : Type 0 where
  pub point : c.point ≡ p.0
  pub vars : c.vars ≡ values_by v s.env
  pub heap : (at : ℕ) → region_of c.heap at ≡ stored v s.graph.edges at
  pub blocks : AllByRecursion (λ e. IsBlock e.1) s.graph.edges
  pub whole : s.whole ≡ true

-- the number is an address
abbrev pub IsAddressed : Valuation → NodeId → Type 0
IsAddressed v n = (pos 1 ≤ℤ v n.0) × (v n.0 ≤ℤ pos 4611686018427387903)

-- no two of the nodes have one number
abbrev pub AreApart : Valuation → List NodeId → Type 0
AreApart v [] = Unit {0}
AreApart v (a ∷ as') = AllByRecursion (λ (b : NodeId). v a.0 ≢ v b.0) as' × AreApart v as'

-- what is known in the state is true by the valuation
pub record IsTrueIn (v : Valuation) (s : State) : Type 0 where
  pub null : v 0 ≡ pos 0
  pub kinds : AllByRecursion (λ k. InKind k.1 (v k.0.0)) s.kinds
  pub atoms : AllByRecursion (IsTrueAtom v) s.atoms
  pub starts : AllByRecursion (IsAddressed v) (block_starts s.graph.edges)
  pub apart : AreApart v (block_starts s.graph.edges)

-- malloc's answer by a valuation
abbrev pub answer : Valuation → Option NodeId → Choice
answer v None = malloc 0
answer v (Some n) = malloc (address (v n.0))

abbrev pub answers : Valuation → Picks → List Choice
answers v picks = map (answer v) picks

-- a run from the start comes here within so many steps, and its choices are used up but for these
abbrev pub ComesHere : Flow → List Def → ℕ → List Choice → Config → List Choice → Type 0
ComesHere flow defs k choices c rest =
    (n : ℕ) (f : Final) → Reaches (Step flow defs) n c rest f → (m : ℕ) × (m ≤ k + n) × Reaches (Step flow defs) m (start flow) choices f
