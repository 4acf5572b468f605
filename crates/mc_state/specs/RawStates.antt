-- States as documents write them.
use Rattle.std.specs.Prelude.{◌≡◌, ◌≢◌, ℕ, suc, List, [], ◌∷◌, All, length}
use Rattle.mc_base.specs.declared.plain.Kind.TheVariants as kind
use Rattle.mc_base.specs.declared.plain.VarInfo.{VarInfo}
use Rattle.mc_flow.specs.declared.defs.rules.Def.{Def}
use Rattle.mc_flow.specs.declared.defs.shapes.StructInfo.{StructInfo}
use Rattle.mc_state.specs.Graph.Graph.{numbered}
use Rattle.mc_pure.specs.Pure.{Kinds}
use Rattle.mc_state.specs.declared.raw_state.NodeKind.{NodeKind}
use Rattle.mc_state.specs.declared.raw_state.NodeKind.TheVariants.{Zero, Int, Ptr}
use Rattle.mc_state.specs.declared.raw_state.RawState.{RawState}
use Rattle.mc_state.specs.State.{State}
use Rattle.mc_state.specs.Fits.{IsWellMade}

-- the kinds of nodes with numbers from one on
abbrev pub kinds_from : ℕ → List NodeKind → Kinds
kinds_from n [] = []
kinds_from n (Zero ∷ kinds) = kinds_from (suc n) kinds
kinds_from n (Int ∷ kinds) = (record { 0 = n }, kind.Int) ∷ kinds_from (suc n) kinds
kinds_from n (Ptr ∷ kinds) = (record { 0 = n }, kind.Ptr) ∷ kinds_from (suc n) kinds

-- the state that is written
abbrev pub state_of : RawState → State
state_of raw =
    record {
      env = raw.vars;
      kinds = kinds_from 0 raw.kinds;
      graph = record { edges = numbered 0 raw.edges; next = length raw.edges };
      atoms = raw.atoms;
      next = length raw.kinds;
      whole = raw.whole;
    }

-- the first kind and no other is that of node 0
abbrev pub BeginsWithZero : List NodeKind → Type 0
BeginsWithZero [] = ⊥
BeginsWithZero (k ∷ kinds) = (k ≡ Zero) × All (λ other. other ≢ Zero) kinds

-- the state that is written is well formed: it is well made, and node 0 is its first
pub record IsWellFormedRaw (defs : List Def) (vars : List VarInfo) (structs : List StructInfo) (raw : RawState) : Type 0 where
  pub zero : BeginsWithZero raw.kinds
  pub made : IsWellMade defs vars structs (state_of raw)
