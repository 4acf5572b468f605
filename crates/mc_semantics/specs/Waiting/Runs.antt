-- How far a run is, for any machine whose steps take choices from the front of a list.
use Rattle.std.specs.Prelude.{◌≡◌, ℕ, zero, suc, List}
use Rattle.mc_flow.specs.Runs.{Outcome, next, last, Final, ended, stopped, fault}

-- the steps of a machine
abbrev pub Machine : Type 0 → Type 0 → Type 1
Machine C K = C → List K → Outcome C K → Type 0

-- n steps lead from a configuration with these choices to another, with the choices that are left
abbrev pub Leads : {C K : Type 0} → Machine C K → ℕ → C → List K → C → List K → Type 0
Leads Steps zero c choices d left = (c ≡ d) × (choices ≡ left)
Leads {C} {K} Steps (suc n) c choices d left =
    (e : C) × (rest : List K) × Steps c choices (next e rest) × Leads Steps n e rest d left

-- the run is at its end, which is no step; or it makes a step, which may be its last one
abbrev pub HasEnded : {C K : Type 0} → Machine C K → C → List K → Type 0
HasEnded Steps c choices = Steps c choices (last ended)

abbrev pub MakesStep : {C K : Type 0} → Machine C K → C → List K → Type 0
MakesStep {C} {K} Steps c choices = (r : Outcome C K) × Steps c choices r × ¬ (r ≡ last ended)

-- n steps were made, and the run goes on: it is not at its end
abbrev pub GoesOn : {C K : Type 0} → Machine C K → ℕ → C → List K → Type 0
GoesOn {C} {K} Steps n c choices = (d : C) × (left : List K) × Leads Steps n c choices d left × ¬ HasEnded Steps d left

-- what a run comes to in so many steps: a stop and a fault are steps, an end is none
abbrev pub ComesTo : {C K : Type 0} → Machine C K → ℕ → C → List K → Final → Type 0
ComesTo {C} {K} Steps n c choices ended =
    (d : C) × (left : List K) × Leads Steps n c choices d left × HasEnded Steps d left
ComesTo Steps zero c choices stopped = ⊥
ComesTo {C} {K} Steps (suc n) c choices stopped =
    (d : C) × (left : List K) × Leads Steps n c choices d left × Steps d left (last stopped)
ComesTo Steps zero c choices (fault kind place) = ⊥
ComesTo {C} {K} Steps (suc n) c choices (fault kind place) =
    (d : C) × (left : List K) × Leads Steps n c choices d left × Steps d left (last (fault kind place))

-- at most one thing comes of a step
abbrev pub IsDetermined : {C K : Type 0} → Machine C K → Type 0
IsDetermined {C} {K} Steps =
    (c : C) (choices : List K) (r s : Outcome C K) → Steps c choices r → Steps c choices s → r ≡ s

-- exactly one of the three
pub record IsOneOf (A B C : Type 0) : Type 0 where
  pub some : ¬ ((¬ A) × (¬ B) × (¬ C))
  pub not_both : A → B → ⊥
  pub nor_first : A → C → ⊥
  pub nor_second : B → C → ⊥
