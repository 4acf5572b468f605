-- Which configurations a symbolic state stands for.
use Rattle.std.specs.Prelude.{◌≡◌, ◌<◌, ℕ, List, [], ◌∷◌, ℤ, pos, Bool, Option, Some, None, IsTrue, map, get_or, ◌-◌, nat_lt, if◌then◌else◌}
use Rattle.std.specs.List.{AllByRecursion}
use Rattle.mc_base.specs.declared.ids.NodeId.{NodeId}
use Rattle.mc_base.specs.Atoms.{IsTrueAtom}
use Rattle.mc_base.specs.Kinds.{InKind}
use Rattle.mc_base.specs.Nodes.{Valuation, at_node}
use Rattle.mc_flow.specs.Heap.Heap.{Region}
use Rattle.mc_flow.specs.Heap.Parts.{Split, IsEmpty, IsCell, Star}
use Rattle.mc_flow.specs.declared.defs.rules.Def.{Def}
use Rattle.mc_flow.specs.Defs.Meaning.{Sat, Seg}
use Rattle.mc_state.specs.declared.graph.edge.Edge.{Edge}
use Rattle.mc_state.specs.declared.graph.edge.Edge.TheVariants as edge
use Rattle.mc_state.specs.Graph.Graph.{Edges}
use Rattle.mc_state.specs.State.{State}

-- what is known has the value of its node; what is unknown is free
abbrev pub VarMeets : Valuation → Option NodeId → Option ℤ → Type 0
VarMeets v None value = Unit {0}
VarMeets v (Some n) value = value ≡ Some (v n.0)

-- each variable of a list, or each field, does so, and there are as many values
abbrev pub VarsMeet : Valuation → List (Option NodeId) → List (Option ℤ) → Type 0
VarsMeet v [] [] = Unit {0}
VarsMeet v (x ∷ xs) (z ∷ zs) = VarMeets v x z × VarsMeet v xs zs
VarsMeet v [] (z ∷ zs) = ⊥
VarsMeet v (x ∷ xs) [] = ⊥

-- a block's part is one block of its struct, at the value of its start, with the known fields;
-- the predicate holds on the part of an Ind, and the part of a Seg is a segment of it
abbrev pub EdgeMeets : List Def → Valuation → Edge → Region → Type 0
EdgeMeets defs v (edge.Block at shape fields) part =
    (address : ℕ) × (v at.0 ≡ pos address)
    × ((values : List (Option ℤ)) × IsCell part address (record { shape = shape.0; fields = values })
    × VarsMeet v fields values)
EdgeMeets defs v (edge.Ind at pred args) part = Sat defs pred (v at.0) (map (at_node v) args) part
EdgeMeets defs v (edge.Seg at args pred «end» ends) part =
    Seg defs pred (v at.0) (map (at_node v) args) (v end.0) (map (at_node v) ends) part

-- each edge has a part of its own, and the parts are the region
abbrev pub EdgesMeet : List Def → Valuation → Edges → Region → Type 0
EdgesMeet defs v es region = Star (λ e. EdgeMeets defs v e.1) es region

-- each edge has a part of the heap, disjoint from the others; the rest is free, or nothing where the state is whole
pub record Parts (defs : List Def) (v : Valuation) (region : Region) (es : Edges) (whole : Bool) : Type 0 where
  pub held : Region
  pub rest : Region
  pub split : Split region held rest
  pub each : EdgesMeet defs v es held
  pub alone : IsTrue whole → IsEmpty rest

-- the variables' values and the heap stand for the state by the valuation
pub record StandsBy (defs : List Def) (v : Valuation) (values : List (Option ℤ)) (region : Region) (s : State) : Type 0 where
  pub null : v 0 ≡ pos 0
  pub kinds : AllByRecursion (λ k. InKind k.1 (v k.0.0)) s.kinds
  pub atoms : AllByRecursion (IsTrueAtom v) s.atoms
  pub vars : VarsMeet v s.env values
  pub parts : Parts defs v region s.graph.edges s.whole

-- they stand for it by some valuation
abbrev pub Stands : List Def → List (Option ℤ) → Region → State → Type 0
Stands defs values region s = (v : Valuation) × StandsBy defs v values region s

-- the two valuations agree on every number below one
abbrev pub AgreeBelow : ℕ → Valuation → Valuation → Type 0
AgreeBelow n v w = (m : ℕ) → m < n → w m ≡ v m

-- the valuation with these values for the numbers from one on
abbrev pub extended : Valuation → ℕ → List ℤ → Valuation
extended v n values m = if nat_lt m n then v m else get_or values (m - n) (pos 0)
