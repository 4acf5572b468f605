-- What a rule's atoms, edges and calls are at the nodes of its names.
use Rattle.std.specs.Prelude.{◌≡◌, ℕ, List, pos, Option, Some, map, slice_get}
use Rattle.std.specs.List.{AllByRecursion}
use Rattle.mc_base.specs.declared.ids.NodeId.{NodeId}
use Rattle.mc_base.specs.declared.ids.PredId.{PredId}
use Rattle.mc_base.specs.declared.ids.StructId.{StructId}
use Rattle.mc_base.specs.Atoms.{IsTrueAtom, nodes_of_atom}
use Rattle.mc_base.specs.Nodes.{Valuation, at_node}
use Rattle.mc_flow.specs.declared.defs.rules.Call.{Call}
use Rattle.mc_flow.specs.declared.defs.rules.Def.{Def}
use Rattle.mc_flow.specs.declared.defs.rules.DefAtom.{DefAtom}
use Rattle.mc_flow.specs.declared.defs.rules.Rule.{Rule}
use Rattle.mc_flow.specs.declared.defs.shapes.StructInfo.{StructInfo}
use Rattle.mc_flow.specs.Defs.Conditions.{DefsFit, RuleFitsStructs}
use Rattle.mc_flow.specs.Defs.Instances.{node_of, atom_of}
use Rattle.mc_flow.specs.Defs.Values as named
use Rattle.mc_state.specs.Graph.Edges.{nodes_of}
use Rattle.mc_pure.specs.Pure.{Kinds, IsNode}
use Rattle.mc_state.specs.Bodies.{body_edges}
use Rattle.mc_state.specs.Fits.{AreNodes}
use Rattle.mc_rules_logic.specs.Unfold.Unfolded.{equal_atoms, own_places}

-- a rule's atoms are true at its nodes where they are true of the nodes' values
abbrev pub RuleAtomsAreTrue : Type 0
RuleAtomsAreTrue =
    (v : Valuation) (nodes : List NodeId) (atoms : List DefAtom)
    → v 0 ≡ pos 0 → AllByRecursion (named.IsTrueAtom (map (at_node v) nodes)) atoms
    → AllByRecursion (IsTrueAtom v) (map (atom_of nodes) atoms)

-- nodes with the same values are equal
abbrev pub EqualAtomsAreTrue : Type 0
EqualAtomsAreTrue =
    (v : Valuation) (as' bs : List NodeId)
    → map (at_node v) as' ≡ map (at_node v) bs → AllByRecursion (IsTrueAtom v) (equal_atoms as' bs)

-- the node of each name is there where the nodes are
abbrev pub NameIsThere : Type 0
NameIsThere =
    (kinds : Kinds) (nodes : List NodeId) (name : ℕ) → AreNodes kinds nodes → IsNode kinds (node_of nodes name)

-- and so are the nodes of a block and of calls
abbrev pub BodyIsThere : Type 0
BodyIsThere =
    (kinds : Kinds) (nodes : List NodeId) (block : Option StructId) (contents : List ℕ) (calls : List Call)
    → AreNodes kinds nodes
    → AllByRecursion (λ e. AreNodes kinds (nodes_of e)) (body_edges nodes block contents calls)

-- and of atoms
abbrev pub RuleAtomsAreThere : Type 0
RuleAtomsAreThere =
    (kinds : Kinds) (nodes : List NodeId) (atoms : List DefAtom)
    → AreNodes kinds nodes → AllByRecursion (λ a. AreNodes kinds (nodes_of_atom a)) (map (atom_of nodes) atoms)

-- and of equalities between nodes that are there
abbrev pub EqualAtomsAreThere : Type 0
EqualAtomsAreThere =
    (kinds : Kinds) (as' bs : List NodeId)
    → AreNodes kinds as' → AreNodes kinds bs
    → AllByRecursion (λ a. AreNodes kinds (nodes_of_atom a)) (equal_atoms as' bs)

-- the place of a call of the predicate is listed
abbrev pub OwnPlaceIsListed : Type 0
OwnPlaceIsListed =
    (pred : PredId) (calls : List Call) (place : ℕ) (call : Call)
    → slice_get calls place ≡ Some call → call.pred ≡ pred
    → (index : ℕ) × (slice_get (own_places pred 0 calls) index ≡ Some place)

-- at a place there is a call of the predicate
abbrev pub IsOwnPlace : PredId → List Call → ℕ → Type 0
IsOwnPlace pred calls place = (call : Call) × (slice_get calls place ≡ Some call) × (call.pred ≡ pred)

-- and only such places are listed
abbrev pub OwnPlacesAreOwn : Type 0
OwnPlacesAreOwn =
    (pred : PredId) (calls : List Call) → AllByRecursion (IsOwnPlace pred calls) (own_places pred 0 calls)

-- each rule of definitions that fit structs fits
abbrev pub RuleOfFitting : Type 0
RuleOfFitting =
    (structs : List StructInfo) (defs : List Def) (p r : ℕ) (def : Def) (rule : Rule)
    → DefsFit structs defs → slice_get defs p ≡ Some def → slice_get def.rules r ≡ Some rule
    → RuleFitsStructs structs defs def.params rule
