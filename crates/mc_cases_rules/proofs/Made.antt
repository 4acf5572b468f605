-- The state that a document writes is well made.
use Rattle.std.proofs.Common.{List, Option, Some, None, IfSome, subst, sym}
use Rattle.mc_base.specs.declared.plain.VarInfo.{VarInfo}
use Rattle.mc_flow.specs.declared.defs.rules.Def.{Def}
use Rattle.mc_flow.specs.declared.defs.shapes.StructInfo.{StructInfo}
use Rattle.mc_state_io.specs.Raw.Raw.{Writes}
use Rattle.mc_state.specs.declared.raw_state.RawState.{RawState}
use Rattle.mc_state.specs.Fits.{IsWellMade}
use Rattle.mc_state.specs.State.{State}

pub made_from : (defs : List Def) (vars : List VarInfo) (structs : List StructInfo) (raw : RawState) (found : Option State) → Writes defs vars structs raw found → IfSome found (IsWellMade defs vars structs)
made_from defs vars structs raw None writes = tt
made_from defs vars structs raw (Some s) writes = subst (λ (t : State). IsWellMade defs vars structs t) (sym writes.1) writes.0.made
