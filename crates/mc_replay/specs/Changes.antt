-- What the lines that change the states of a cut give, after their first two premises.
use Rattle.std.specs.Prelude.{◌≡◌, ◌==◌, ◌&&◌, not, ℕ, ℤ, List, ◌∷◌, Option, Some, None, Result, Ok, length, map, slice_get}
use Rattle.std.specs.List.{AllByRecursion, list_all}
use denote.Bor.{Bor}
use Rattle.mc_base.specs.declared.plain.VarInfo.{VarInfo}
use Rattle.mc_flow.specs.declared.defs.rules.Def.{Def}
use Rattle.mc_flow.specs.declared.defs.shapes.StructInfo.{StructInfo}
use Rattle.mc_flow.specs.declared.graph.Flow.{Flow}
use Rattle.mc_state.specs.declared.line.JoinStep.{JoinStep}
use Rattle.mc_state.specs.Fits.{IsWellMade}
use Rattle.mc_state.specs.Known.{is_false}
use Rattle.mc_state.specs.Lists.{all_both}
use Rattle.mc_state.specs.Premises.{Judged, need, have, then_give}
use Rattle.mc_state.specs.State.{State}
use Rattle.mc_kernel.specs.Branches.{Path, Setting, states_at}
use Rattle.mc_joins.specs.Parts.{Basis}
use Rattle.mc_joins.specs.Same.Same.{anew}
use Rattle.mc_joins.specs.Chains.Judges.{Lore, basis, may_change, whole_join, gets_stuck, given_by, opening_state, joining_state}
use Rattle.mc_joins.specs.Chains.Laws.{Made, IsRight}
use Rattle.mc_joins.specs.Chains.Opened.{with_state_at, with_state_for}
use Rattle.mc_joins.specs.Whole.{Joins}
use Rattle.mc_replay.specs.Whole.{TellsOf}

-- the states that references lead to
abbrev pub states_held : List (Bor State) → List State
states_held states = map (λ s. s.now) states

-- the states are well made for these definitions and for some variables and structs
pub record AreMadeFor (defs : List Def) (states : List State) : Type 0 where
  pub vars : List VarInfo
  pub structs : List StructInfo
  pub made : AllByRecursion (IsWellMade defs vars structs) states

-- it holds of all tests that tell what is entailed in both states, with these definitions
abbrev pub ForTestsOf : List Def → State → State → (Basis → Type 0) → Type 0
ForTestsOf defs left right P = (w : Basis) → w.defs ≡ defs → TellsOf w left right → P w

-- and in each of some states and one more
abbrev pub ForTestsOfAll : List Def → List State → State → (Basis → Type 0) → Type 0
ForTestsOfAll defs lefts own P = (w : Basis) → w.defs ≡ defs → AllByRecursion (λ left. TellsOf w left own) lefts → P w

-- what a whole join gives, or the steps are none
abbrev pub IsJoined : ℕ → List ℤ → State → State → List JoinStep → Option State → Basis → Type 0
IsJoined round thresholds left right steps None w = whole_join w left right steps ≡ None
IsJoined round thresholds left right steps (Some t) w = Joins w round thresholds left right steps t

-- ---- C2

-- the state that a cut with these states gets at a branch with this one
abbrev pub opened_state : Lore → List Def → List State → List (List JoinStep) → State → Judged State
opened_state k defs lefts tries own =
    need 3 (length tries == length lefts)
    (need 4 (k.tidy own && list_all k.tidy lefts)
    (need 5 (all_both (gets_stuck (basis k defs) own) lefts tries)
    (Ok (anew own))))

-- whatever judges rightly judges so
abbrev pub IsOpened : List Def → List State → List (List JoinStep) → State → Result State ℕ → Type 0
IsOpened defs lefts tries own answer =
    (k : Lore) (flow : Flow) → IsRight k flow defs → AllByRecursion (Made flow defs) (own ∷ lefts)
    → answer ≡ opened_state k defs lefts tries own

-- ---- C3

-- the state that takes the place of one of the cut's
abbrev pub rejoined_state : Lore → List Def → ℕ → List State → ℕ → List JoinStep → State → Judged State
rejoined_state k defs round lefts j steps own =
    have 3 (slice_get lefts j) (λ left.
    need 4 (k.tidy own && k.tidy left)
    (have 5 (whole_join (basis k defs) left own steps) (λ last.
    need 6 (not (k.same (given_by k round left own last) left))
    (Ok (given_by k round left own last)))))

-- whatever judges rightly judges so, where the flow graph has these thresholds
abbrev pub IsRejoined : List Def → ℕ → List ℤ → List State → ℕ → List JoinStep → State → Result State ℕ → Type 0
IsRejoined defs round thresholds lefts j steps own answer =
    (k : Lore) (flow : Flow) → IsRight k flow defs → flow.thresholds ≡ thresholds → AllByRecursion (Made flow defs) (own ∷ lefts)
    → answer ≡ rejoined_state k defs round lefts j steps own

-- ---- what is said of them

-- C2 is so judged after its first two premises
abbrev pub OpeningIsParted : Type 0
OpeningIsParted =
    (k : Lore) (defs : List Def) (g : Setting) (tries : List (List JoinStep)) (b : Path)
    → opening_state k defs g tries b
    ≡ need 1 (may_change g b) (need 2 (not (is_false (k.lines.know b.state)))
    (then_give (λ s. with_state_at b.point s g.heads) (opened_state k defs (states_at b.point g.heads) tries b.state)))

-- and C3
abbrev pub JoiningIsParted : Type 0
JoiningIsParted =
    (k : Lore) (defs : List Def) (round : ℕ) (g : Setting) (j : ℕ) (steps : List JoinStep) (b : Path)
    → joining_state k defs round g j steps b
    ≡ need 1 (may_change g b) (need 2 (not (is_false (k.lines.know b.state)))
    (then_give (λ s. with_state_for b.point j s g.heads) (rejoined_state k defs round (states_at b.point g.heads) j steps b.state)))
