-- Side branches can be ended.
use Rattle.std.specs.Prelude.{List, map}
use Rattle.mc_base.specs.declared.plain.Kind.TheVariants.{Ptr}
use Rattle.mc_base.specs.declared.plain.VarInfo.{VarInfo}
use Rattle.mc_flow.specs.Defs.Conditions.{DefsFit}
use Rattle.mc_flow.specs.declared.defs.rules.Def.{Def}
use Rattle.mc_flow.specs.declared.defs.shapes.StructInfo.{StructInfo}
use Rattle.mc_state.specs.Graph.Graph.{Edges}
use Rattle.mc_pure.specs.Pure.{HasKind}
use Rattle.mc_state.specs.declared.goal.Goal.{Goal}
use Rattle.mc_state.specs.Covers.{Cover}
use Rattle.mc_state.specs.Fits.{ArgsFit, IsWellMade}
use Rattle.mc_state.specs.State.{State}
use Rattle.mc_state.specs.Terms.{plain}
use Rattle.mc_follow.specs.Ending.Ending.{CanEnd}

-- where a goal that fits has a cover in a well-made state, lines of a side branch lead to its end
abbrev pub SidesCanEnd : Type 0
SidesCanEnd =
    (structs : List StructInfo) (defs : List Def) (vars : List VarInfo)
    → DefsFit structs defs
    → (s : State) (goal : Goal) (left : Edges)
    → IsWellMade defs vars structs s → HasKind s.kinds Ptr goal.at → ArgsFit defs s.kinds goal.pred goal.args
    → Cover defs s goal.pred (plain goal.at) (map plain goal.args) s.graph.edges left → CanEnd defs goal s
