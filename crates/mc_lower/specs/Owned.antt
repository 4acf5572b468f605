-- Variables of a flow graph that is made, found by whose they are.
use Rattle.std.specs.Prelude.{◌≡◌, ◌<◌, ◌≤◌, ℕ, List, Option, Some, None, slice_get}
use Rattle.mc_base.specs.declared.ids.VarId.{VarId}
use Rattle.mc_base.specs.declared.text.place.Place.{Place}
use Rattle.mc_flow.specs.declared.instr.Instr.TheVariants.{Undef}
use Rattle.mc_semantics.specs.Resolved.Programs.{Function, Local}
use Rattle.mc_lower_spec.specs.Graphs.{Graph, local, plain, Stage, Appends, Creates, AreMade}
use Rattle.mc_lower.specs.declared.variables.Owner.{Owner as OwnerCode}
use Rattle.mc_lower.specs.declared.variables.Variable.{Variable}

-- the number of the first variable of an owner, if there is one
abbrev pub IsFirst : List Variable → OwnerCode → Option ℕ → Type 0
IsFirst variables owner None = (i : ℕ) (v : Variable) → slice_get variables i ≡ Some v → v.owner ≡ owner → ⊥
IsFirst variables owner (Some i) =
    ((v : Variable) × (slice_get variables i ≡ Some v) × (v.owner ≡ owner))
    × ((j : ℕ) (v : Variable) → slice_get variables j ≡ Some v → v.owner ≡ owner → i ≤ j)

-- a variable of this occurrence of a function, of those that are meant
abbrev pub IsLocalOf : (Meant : ℕ → Type 0) → ℕ → OwnerCode → Type 0
IsLocalOf Meant i (OwnerCode.Local j x) = (j ≡ i) × Meant x
IsLocalOf Meant i (OwnerCode.Result j) = ⊥
IsLocalOf Meant i (OwnerCode.Temporary j kind) = ⊥

-- a variable of a function is made in an occurrence of it
pub record CreatesLocal (g : Graph) (f : Function) (out x : ℕ) (s : Stage) (v : VarId) (u : Stage) : Type 0 where
  pub info : Local
  pub there : slice_get f.locals x ≡ Some info
  pub created : Creates g (local out x) (record { name = info.name; kind = info.kind }) s v u

-- of the first so many variables of an occurrence, those that are made become undefined by one point
pub record Forgets (g : Graph) (out : ℕ) (place : Place) (count : ℕ) (s u : Stage) : Type 0 where
  pub made : List VarId
  pub are_made : AreMade g out (λ x. x < count) s made
  pub undefined : Appends g plain place (λ q. Undef made q) s u
