-- Rules that can be put into a state.
use Rattle.std.specs.Prelude.{◌≡◌, ℕ, List, ◌∷◌, Some, map, slice_get}
use Rattle.std.specs.List.{AllByRecursion}
use Rattle.mc_rules_logic.specs.Back.Unfolded.{new_nodes}
use Rattle.mc_base.specs.declared.ids.EdgeId.{EdgeId}
use Rattle.mc_base.specs.declared.ids.NodeId.{NodeId}
use Rattle.mc_base.specs.declared.ids.PredId.{PredId}
use Rattle.mc_flow.specs.declared.defs.rules.Call.{Call}
use Rattle.mc_flow.specs.declared.defs.rules.Def.{Def}
use Rattle.mc_flow.specs.declared.defs.rules.Rule.{Rule}
use Rattle.mc_flow.specs.Defs.Instances.{node_of, atom_of}
use Rattle.mc_state.specs.declared.graph.edge.Edge.TheVariants.{Ind, Seg}
use Rattle.mc_state.specs.Graph.Graph.{edge_with}
use Rattle.mc_state.specs.Named.{SegParts}
use Rattle.mc_pure.specs.Pure.{IsWellFormed}
use Rattle.mc_rules_logic.specs.Rule.Made.{IsMadeFor}
use Rattle.mc_state.specs.Fits.{AreNodes}
use Rattle.mc_state.specs.State.{State, with_nodes}
use Rattle.mc_rules_logic.specs.Unfold.Judges.{rules_of}
use Rattle.mc_rules_logic.specs.Unfold.Unfolded.{equal_atoms, new_kinds, rule_nodes}

-- a Seg's parts
abbrev pub parts : NodeId → List NodeId → PredId → NodeId → List NodeId → SegParts
parts at args pred stop ends = record { at = at; args = args; pred = pred; stop = stop; ends = ends }

-- with new nodes for a rule's names, all its nodes are there and its atoms may be written
abbrev pub TakesRule : State → NodeId → List NodeId → Rule → Type 0
TakesRule s at args rule =
    AreNodes (with_nodes s (new_kinds args rule)).kinds (rule_nodes s at args rule)
    × AllByRecursion (IsWellFormed (with_nodes s (new_kinds args rule)).kinds) (map (atom_of (rule_nodes s at args rule)) rule.atoms)

-- and the nodes of an end are there too
abbrev pub TakesRuleTo : State → NodeId → List NodeId → NodeId → List NodeId → Rule → Type 0
TakesRuleTo s at args stop ends rule =
    TakesRule s at args rule × AreNodes (with_nodes s (new_kinds args rule)).kinds (stop ∷ ends)

-- with new nodes for all of a rule's names, they and the nodes of a Seg's start are there, the rule's atoms may be
-- written, and so may be that one of its calls of the predicate is the Seg's end
pub record TakesRuleBack (s : State) (g : SegParts) (rule : Rule) : Type 0 where
  pub nodes : AreNodes (with_nodes s rule.names).kinds (new_nodes s rule)
  pub start : AreNodes (with_nodes s rule.names).kinds (g.at ∷ g.args)
  pub atoms : AllByRecursion (IsWellFormed (with_nodes s rule.names).kinds) (map (atom_of (new_nodes s rule)) rule.atoms)
  pub ends : (place : ℕ) (call : Call)
      → slice_get rule.calls place ≡ Some call → call.pred.0 ≡ g.pred.0
      → AllByRecursion (IsWellFormed (with_nodes s rule.names).kinds)
      (equal_atoms (node_of (new_nodes s rule) call.at ∷ map (node_of (new_nodes s rule)) call.args)
      (g.stop ∷ g.ends))

-- in a state that is made for the definitions an Ind takes each rule of its predicate
abbrev pub IndTakesRules : Type 0
IndTakesRules =
    (defs : List Def) (s : State) (edge : EdgeId) (at : NodeId) (pred : PredId) (args : List NodeId)
    → IsMadeFor defs s → edge_with s.graph.edges edge ≡ Some (Ind at pred args)
    → AllByRecursion (TakesRule s at args) (rules_of defs pred)

-- so does a Seg, and its start and its end may be written equal
abbrev pub SegTakesRules : Type 0
SegTakesRules =
    (defs : List Def) (s : State) (edge : EdgeId)
    (at : NodeId) (args : List NodeId) (pred : PredId) (stop : NodeId) (ends : List NodeId)
    → IsMadeFor defs s → edge_with s.graph.edges edge ≡ Some (Seg at args pred stop ends)
    → AllByRecursion (TakesRuleTo s at args stop ends) (rules_of defs pred)
    × AllByRecursion (IsWellFormed s.kinds) (equal_atoms (at ∷ args) (stop ∷ ends))

-- and a Seg takes each rule from its end
abbrev pub BackTakesRules : Type 0
BackTakesRules =
    (defs : List Def) (s : State) (edge : EdgeId)
    (at : NodeId) (args : List NodeId) (pred : PredId) (stop : NodeId) (ends : List NodeId)
    → IsMadeFor defs s → edge_with s.graph.edges edge ≡ Some (Seg at args pred stop ends)
    → AllByRecursion (TakesRuleBack s (parts at args pred stop ends)) (rules_of defs pred)
