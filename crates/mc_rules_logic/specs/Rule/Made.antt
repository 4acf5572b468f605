-- States at which rules of logic are asked for, and what is known of them.
use Rattle.std.specs.Prelude.{List}
use Rattle.mc_base.specs.declared.ids.NodeId.{NodeId}
use Rattle.mc_base.specs.declared.plain.Atom.{Atom}
use Rattle.mc_base.specs.declared.plain.VarInfo.{VarInfo}
use Rattle.mc_flow.specs.declared.defs.rules.Def.{Def}
use Rattle.mc_flow.specs.declared.defs.shapes.StructInfo.{StructInfo}
use Rattle.mc_flow.specs.Defs.Conditions.{DefsFit}
use Rattle.mc_rules_logic.specs.Fold.Changed.{IsListWithout}
use Rattle.mc_state.specs.State.{State}
use Rattle.mc_state.specs.Fits.{IsWellMade}

-- the state is well made for some variables and structs, which the definitions fit
pub record IsMadeFor (defs : List Def) (s : State) : Type 0 where
  pub vars : List VarInfo
  pub structs : List StructInfo
  pub fit : DefsFit structs defs
  pub made : IsWellMade defs vars structs s

-- what is written in a state where a node is forgotten
abbrev pub Left : Type 0
Left = NodeId → List Atom

-- these are the lists that are written there
abbrev pub AreLeft : Left → State → Type 0
AreLeft left s = (node : NodeId) → IsListWithout node s (left node)
