-- Rules that look like the rules that unfold, and are not sound.
use Rattle.std.specs.Prelude.{◌≡◌, List, ◌∷◌, Option, map, take}
use Rattle.std.specs.List.{flat_map}
use Rattle.mc_base.specs.declared.ids.EdgeId.{EdgeId}
use Rattle.mc_base.specs.declared.ids.NodeId.{NodeId}
use Rattle.mc_flow.specs.declared.defs.rules.Def.{Def}
use Rattle.mc_state.specs.Fits.{IsBounded}
use Rattle.mc_state.specs.Rules.{IsSound}
use Rattle.mc_state.specs.State.{State}
use Rattle.mc_rules_logic.specs.Unfold.Unfolded.{UnfoldsSeg, emptied, unfolded_at, own_places}

-- a rule on an edge: definitions, the accessed node, the edge, a state and its successors
abbrev pub EdgeRule : Type 1
EdgeRule = List Def → Option NodeId → EdgeId → State → List State → Type 0

-- a rule gives only successors that are sound
abbrev pub IsSoundRule : EdgeRule → Type 0
IsSoundRule Rule =
    (defs : List Def) (accessed : Option NodeId) (edge : EdgeId) (s : State) (next : List State) → IsBounded s
    → Rule defs accessed edge s next → IsSound defs s next

-- L2 without the successor in which the Seg is empty
abbrev pub NeverEmpty : EdgeRule
NeverEmpty defs accessed edge s next = (first : State) × UnfoldsSeg defs accessed edge s (first ∷ next)

-- L2 in which only the first of a rule's own calls goes on as the segment
abbrev pub FirstCallOnly : EdgeRule
FirstCallOnly defs accessed edge s next =
    (all : List State) × (i : UnfoldsSeg defs accessed edge s all)
    × (next ≡ emptied s edge i.at i.args i.stop i.ends
    ∷ flat_map (λ rule. map (unfolded_at s edge i.at i.args i.stop i.ends rule) (take 1 (own_places i.pred 0 rule.calls))) i.def.rules)
