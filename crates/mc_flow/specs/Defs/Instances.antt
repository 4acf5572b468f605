-- A rule with nodes for its names.
use Rattle.std.specs.Prelude.{ℕ, Option, Some, None, List, map, get_or}
use Rattle.mc_base.specs.declared.ids.NodeId.{NodeId}
use Rattle.mc_base.specs.declared.ids.PredId.{PredId}
use Rattle.mc_base.specs.declared.plain.Atom.{Atom}
use Rattle.mc_base.specs.declared.plain.Atom.TheVariants.{Eq, Ne, In}
use Rattle.mc_base.specs.Nodes.{null}
use Rattle.mc_flow.specs.declared.defs.rules.Call.{Call}
use Rattle.mc_flow.specs.declared.defs.rules.DefAtom as D
use Rattle.mc_flow.specs.declared.defs.rules.DefAtom.TheVariants as V
use Rattle.mc_flow.specs.declared.defs.rules.Rule.{Rule}
use Rattle.mc_flow.specs.declared.defs.instance.Instance.{Instance}

-- the node of a name
abbrev pub node_of : List NodeId → ℕ → NodeId
node_of nodes name = get_or nodes name null

-- the node of a base: that of a name, or of zero
abbrev pub base_node : List NodeId → Option ℕ → NodeId
base_node nodes None = null
base_node nodes (Some name) = node_of nodes name

-- the atom with nodes for its names
abbrev pub atom_of : List NodeId → D.DefAtom → Atom
atom_of nodes (V.Eq left base add fixes) = Eq (node_of nodes left) (base_node nodes base) add
atom_of nodes (V.Ne left base add) = Ne (node_of nodes left) (base_node nodes base) add
atom_of nodes (V.In left lo hi) = In (node_of nodes left) lo hi

-- the call with nodes for its names
abbrev pub call_of : List NodeId → Call → PredId × NodeId × List NodeId
call_of nodes call = (call.pred, node_of nodes call.at, map (node_of nodes) call.args)

-- the rule with nodes for its names
abbrev pub instance_of : List NodeId → Rule → Instance
instance_of nodes rule =
    record { fields = map (node_of nodes) rule.contents; calls = map (call_of nodes) rule.calls; atoms = map (atom_of nodes) rule.atoms }
