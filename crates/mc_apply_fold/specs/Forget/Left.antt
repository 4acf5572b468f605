-- What is left where a node is forgotten.
use Rattle.std.specs.Prelude.{ℕ, ◌-◌, List, [], ◌++◌, take}
use Rattle.std.specs.List.{AllByRecursion}
use Rattle.mc_base.specs.declared.ids.NodeId.{NodeId}
use Rattle.mc_base.specs.declared.plain.Atom.{Atom}
use Rattle.mc_base.specs.declared.plain.VarInfo.{VarInfo}
use Rattle.mc_flow.specs.declared.defs.rules.Def.{Def}
use Rattle.mc_flow.specs.declared.defs.shapes.StructInfo.{StructInfo}
use Rattle.mc_pure.specs.Pure.{Pure, Kinds, IsNode}
use Rattle.mc_state.specs.State.{State}
use Rattle.mc_state.specs.Fits.{IsWellMade}

-- the state is well made for some definitions, variables and structs
abbrev pub IsMade : State → Type 0
IsMade s = (defs : List Def) × (vars : List VarInfo) × (structs : List StructInfo) × IsWellMade defs vars structs s

-- nodes with their kinds, of which nothing more is known
abbrev pub only_kinds : Kinds → Pure
only_kinds kinds = record { kinds = kinds; written = []; starts = [] }

-- atoms more
abbrev pub with_atoms : Pure → List Atom → Pure
with_atoms p atoms = record p { written = p.written ++ atoms }

-- blocks more
abbrev pub with_starts : Pure → List NodeId → Pure
with_starts p nodes = record p { starts = p.starts ++ nodes }

-- all of a list are nodes
abbrev pub AreNodesOf : Pure → List NodeId → Type 0
AreNodesOf p nodes = AllByRecursion (IsNode p.kinds) nodes

-- the kinds of the first nodes, of which node 0 has none
abbrev pub first_kinds : ℕ → Kinds → Kinds
first_kinds count kinds = take (count - 1) kinds
