-- What holds of the steps of joins.
use Rattle.std.specs.Prelude.{◌≡◌, ◌↔◌, ℕ, ℤ, true, is_some, Option, Some, None, List}
use Rattle.mc_base.specs.declared.plain.Atom.{Atom}
use Rattle.mc_base.specs.declared.plain.VarInfo.{VarInfo}
use Rattle.mc_flow.specs.Heap.Heap.{Region, IsAtAddresses}
use Rattle.mc_flow.specs.Defs.Conditions.{IsDefs}
use Rattle.mc_flow.specs.declared.defs.rules.Def.{Def}
use Rattle.mc_flow.specs.declared.defs.shapes.StructInfo.{StructInfo}
use Rattle.mc_state.specs.Known.{Test, Tells}
use Rattle.mc_state.specs.declared.line.JoinStep.{JoinStep}
use Rattle.mc_state.specs.Facts.{IsFalse}
use Rattle.mc_state.specs.Fits.{IsWellMade}
use Rattle.mc_state.specs.Stands.{Stands}
use Rattle.mc_state.specs.State.{State}
use Rattle.mc_joins.specs.Alike.Named.{AllNamed}
use Rattle.mc_joins.specs.Joinings.{Joining, begun, next_pair}
use Rattle.mc_joins.specs.Parts.{Basis}
use Rattle.mc_joins.specs.Steps.{after_step, after_steps, is_stuck}
use Rattle.mc_joins.specs.Whole.{AreJointAtoms, Joins, result_of}

-- a join is stuck exactly where there is a next pair and no step at all applies
abbrev pub StuckIsEvery : Type 0
StuckIsEvery =
    (w : Basis) (j : Joining)
    → (is_stuck w j ≡ true) ↔ ((is_some (next_pair j) ≡ true) × ((step : JoinStep) → after_step w j step ≡ None))

-- the tests tell what is entailed in each well-made state
abbrev pub KnowsMade : List Def → List VarInfo → List StructInfo → (State → Test) → Type 0
KnowsMade defs vars structs know = (s : State) → IsWellMade defs vars structs s → Tells (know s) s

-- there are such tests
abbrev pub MadeAreTold : Type 0
MadeAreTold =
    (defs : List Def) (vars : List VarInfo) (structs : List StructInfo)
    → (know : State → Test) × KnowsMade defs vars structs know

-- a step of a join of well-made states depends on what is entailed in states and on nothing else: there is one join
-- that it gives, or it does not apply, by whatever tests tell that
abbrev pub StepsAreDetermined : Type 0
StepsAreDetermined =
    (defs : List Def) (vars : List VarInfo) (structs : List StructInfo) (know other : State → Test) (j : Joining) (step : JoinStep)
    → KnowsMade defs vars structs know → KnowsMade defs vars structs other
    → IsWellMade defs vars structs j.left.state → IsWellMade defs vars structs j.right.state
    → after_step (record { know = know; defs = defs }) j step ≡ after_step (record { know = other; defs = defs }) j step

-- it leaves both states well made
abbrev pub StepsKeepMade : Type 0
StepsKeepMade =
    (defs : List Def) (vars : List VarInfo) (structs : List StructInfo) (know : State → Test) (j : Joining)
    (step : JoinStep) (next : Joining)
    → KnowsMade defs vars structs know → IsWellMade defs vars structs j.left.state
    → IsWellMade defs vars structs j.right.state
    → after_step (record { know = know; defs = defs }) j step ≡ Some next
    → IsWellMade defs vars structs next.left.state × IsWellMade defs vars structs next.right.state

-- so a list of steps is legal or not, and gives one join, by whatever tests tell what is entailed
abbrev pub PrefixesAreDetermined : Type 0
PrefixesAreDetermined =
    (defs : List Def) (vars : List VarInfo) (structs : List StructInfo) (know other : State → Test)
    (left right : State) (steps : List JoinStep)
    → KnowsMade defs vars structs know → KnowsMade defs vars structs other → IsWellMade defs vars structs left
    → IsWellMade defs vars structs right
    → after_steps (record { know = know; defs = defs }) (begun left right) steps
    ≡ after_steps (record { know = other; defs = defs }) (begun left right) steps

-- a whole join of two states by the same steps gives one state
abbrev pub JoinsAreDetermined : Type 0
JoinsAreDetermined =
    (w : Basis) (round : ℕ) (thresholds : List ℤ) (left right : State) (steps : List JoinStep) (t u : State)
    → Joins w round thresholds left right steps t → Joins w round thresholds left right steps u → t ≡ u

-- steps that come to the end of a join of well-made states that are not false are a whole join: whatever the pass and the
-- thresholds, there are the atoms of what it gives
abbrev pub JoinsAreThere : Type 0
JoinsAreThere =
    (defs : List Def) (vars : List VarInfo) (structs : List StructInfo) (know : State → Test) (round : ℕ) (thresholds : List ℤ)
    (left right : State) (steps : List JoinStep) (last : Joining)
    → KnowsMade defs vars structs know → IsWellMade defs vars structs left → IsWellMade defs vars structs right
    → (IsFalse left → ⊥) → (IsFalse right → ⊥)
    → after_steps (record { know = know; defs = defs }) (begun left right) steps ≡ Some last → next_pair last ≡ None
    → (atoms : List Atom) × AreJointAtoms round thresholds last (result_of left right last atoms)

-- what a whole join of well-made states gives is well made
abbrev pub JoinsMakeWell : Type 0
JoinsMakeWell =
    (defs : List Def) (vars : List VarInfo) (structs : List StructInfo) (know : State → Test) (round : ℕ) (thresholds : List ℤ)
    (left right : State) (steps : List JoinStep) (t : State)
    → KnowsMade defs vars structs know → IsWellMade defs vars structs left → IsWellMade defs vars structs right
    → Joins (record { know = know; defs = defs }) round thresholds left right steps t → IsWellMade defs vars structs t

-- and each node of it but node 0 stands in a variable or in an edge
abbrev pub JoinsNameAll : Type 0
JoinsNameAll =
    (defs : List Def) (vars : List VarInfo) (structs : List StructInfo) (know : State → Test) (round : ℕ) (thresholds : List ℤ)
    (left right : State) (steps : List JoinStep) (t : State)
    → KnowsMade defs vars structs know → IsWellMade defs vars structs left → IsWellMade defs vars structs right
    → Joins (record { know = know; defs = defs }) round thresholds left right steps t → AllNamed t

-- whatever stands for either of two well-made states stands for what a whole join of them gives
abbrev pub JoinsAreSound : Type 0
JoinsAreSound =
    (defs : List Def) (vars : List VarInfo) (structs : List StructInfo) (know : State → Test) (round : ℕ) (thresholds : List ℤ)
    (left right : State) (steps : List JoinStep) (t : State) (values : List (Option ℤ)) (region : Region)
    → IsDefs defs → KnowsMade defs vars structs know → IsWellMade defs vars structs left → IsWellMade defs vars structs right
    → Joins (record { know = know; defs = defs }) round thresholds left right steps t → IsAtAddresses region
    → (Stands defs values region left → Stands defs values region t) × (Stands defs values region right → Stands defs values region t)
