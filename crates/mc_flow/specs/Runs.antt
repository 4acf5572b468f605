-- Runs of any machine whose steps take choices from the front of a list.
use Rattle.std.specs.Prelude.{ℕ, zero, suc, ◌⊎◌, List}
use Rattle.mc_base.specs.declared.plain.FaultKind.{FaultKind}
use Rattle.mc_base.specs.declared.text.place.Place.{Place}

-- how a run can come to its end
pub data Final : Type 0 where
  ended : Final
  stopped : Final
  fault : FaultKind → Place → Final

-- what a step comes to: the next configuration with the choices that are left, or the end of the run
pub data Outcome (C K : Type 0) : Type 0 where
  next : C → List K → Outcome C K
  last : Final → Outcome C K

-- within n steps the run from this configuration with these choices comes to this end;
-- where no step is possible, a choice being missing or not allowed, the run goes no further
abbrev pub Reaches : {C K : Type 0} → (C → List K → Outcome C K → Type 0) → ℕ → C → List K → Final → Type 0
Reaches Steps zero c choices f = ⊥
Reaches {C} {K} Steps (suc n) c choices f =
    Steps c choices (last f) ⊎ ((d : C) × (rest : List K) × Steps c choices (next d rest) × Reaches Steps n d rest f)

-- no run from this configuration, of any length and for any choices, has a fault
abbrev pub IsSafeFrom : {C K : Type 0} → (C → List K → Outcome C K → Type 0) → C → Type 0
IsSafeFrom {C} {K} Steps c = (n : ℕ) (choices : List K) (kind : FaultKind) (place : Place)
    → Reaches Steps n c choices (fault kind place) → ⊥
