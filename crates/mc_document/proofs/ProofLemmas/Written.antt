-- States that are written are made.
use Rattle.std.proofs.Common.{◌≡◌, List, Option, Some, subst, sym}
use Rattle.std.specs.Prelude.{Result, IfOk}
use Rattle.std.proofs.lemmas.Result.{IfOk-weaker}
use Rattle.mc_base.specs.declared.plain.VarInfo.{VarInfo}
use Rattle.mc_flow.specs.declared.defs.rules.Def.{Def}
use Rattle.mc_flow.specs.declared.defs.shapes.StructInfo.{StructInfo}
use Rattle.mc_state_io.specs.Raw.Raw.{Writes}
use Rattle.mc_state.specs.declared.raw_state.RawState.{RawState}
use Rattle.mc_state.specs.Fits.{IsWellMade}
use Rattle.mc_state.specs.RawStates.{state_of}
use Rattle.mc_state.specs.State.{State}

module _ (defs ds : List Def) (vars vs : List VarInfo) (structs ss : List StructInfo) (raw : RawState) (a : defs ≡ ds) (b : vars ≡ vs) (c : structs ≡ ss) where
  one_made : (found : Option State) → Writes defs vars structs raw found → (s : State) → found ≡ Some s → IsWellMade ds vs ss s
  one_made found w s e =
      let is = subst (λ (o : Option State). Writes defs vars structs raw o) e w in
      subst (λ (t : State). IsWellMade ds vs ss t) (sym is.1)
      (subst (λ (ss : List StructInfo). IsWellMade ds vs ss (state_of raw)) c
      (subst (λ (vs : List VarInfo). IsWellMade ds vs structs (state_of raw)) b
      (subst (λ (ds : List Def). IsWellMade ds vars structs (state_of raw)) a is.0.made)))

  pub written_made : {E : Type 0} (r : Result (Option State) E) → IfOk r (λ found. Writes defs vars structs raw found)
      → IfOk r (λ found. (s : State) → found ≡ Some s → IsWellMade ds vs ss s)
  written_made r told =
      IfOk-weaker r (λ (found : Option State). Writes defs vars structs raw found) (λ (found : Option State). (s : State) → found ≡ Some s → IsWellMade ds vs ss s)
      (λ found w. one_made found w) told
