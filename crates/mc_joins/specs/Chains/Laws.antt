-- What holds of chains.
use Rattle.std.specs.Prelude.{◌≡◌, ◌↔◌, ℕ, true, List, [], Some, None}
use Rattle.std.specs.List.{AllByRecursion}
use Rattle.mc_base.specs.declared.plain.Atom.{Atom}
use Rattle.mc_lines.specs.declared.cert.line.Line.{Line}
use Rattle.mc_flow.specs.declared.defs.rules.Def.{Def}
use Rattle.mc_flow.specs.declared.graph.Flow.{Flow}
use Rattle.mc_flow.specs.Valid.{IsValid}
use Rattle.mc_state.specs.Known.{Test}
use Rattle.mc_state.specs.Premises.{IsJudged}
use Rattle.mc_state.specs.declared.line.JoinStep.{JoinStep}
use Rattle.mc_state.specs.declared.raw_state.RawState.{RawState}
use Rattle.mc_state.specs.RawStates.{IsWellFormedRaw}
use Rattle.mc_state.specs.Facts.{IsTidy}
use Rattle.mc_state.specs.Fits.{IsWellMade}
use Rattle.mc_state.specs.State.{State}
use Rattle.mc_joins.specs.Same.Same.{AreSameUnder, anew}
use Rattle.mc_kernel.specs.Branches.{Path, Setting, states_at}
use Rattle.mc_kernel.specs.Certificates.{IsLastPass, FaultsOnlyStuck}
use Rattle.mc_kernel.specs.JudgedLaws.{IsAsked}
use Rattle.mc_kernel.specs.Reading.Documents.{IsMade}
use Rattle.mc_joins.specs.Joinings.{Joining, begun, next_pair}
use Rattle.mc_joins.specs.Steps.{after_steps}
use Rattle.mc_joins.specs.Whole.{AreJointAtoms, result_of}
use Rattle.mc_joins.specs.Chains.Chains.{IsLegalChain, IsFinal, KnowsStates, last_pass}
use Rattle.mc_joins.specs.Chains.Judges.{Lore, basis, given_by, opening_state, joining_state}
use Rattle.mc_joins.specs.Chains.Opened.{OpensState, JoinsState}

-- ---- C2 and C3

-- the state is well made for the flow graph and the definitions
abbrev pub Made : Flow → List Def → State → Type 0
Made flow defs s = IsWellMade defs flow.vars flow.structs.list s

-- a join of two well-made tidy states by steps is whole
pub record IsWholeJoin (know : State → Test) (flow : Flow) (defs : List Def) (left right : State)
    (steps : List JoinStep) (last : Joining) : Type 0 where
  pub left_made : Made flow defs left
  pub right_made : Made flow defs right
  pub left_tidy : IsTidy left
  pub right_tidy : IsTidy right
  pub reached : after_steps (record { know = know; defs = defs }) (begun left right) steps ≡ Some last
  pub done : next_pair last ≡ None

-- what the lines of chains are judged by is right: what is entailed in states, and what else is asked of a branch with a
-- well-made state; which written states are well formed, and which states are tidy; the atoms of whole joins; and
-- which states are the same
pub record IsRight (k : Lore) (flow : Flow) (defs : List Def) : Type 0 where
  pub knows : KnowsStates flow defs k.lines.know
  pub asked : (b : Path) → IsMade flow defs b → IsAsked k.lines flow defs b
  pub formed : (raw : RawState) → (k.formed raw ≡ true) ↔ IsWellFormedRaw defs flow.vars flow.structs.list raw
  pub tidy : (s : State) → Made flow defs s → (k.tidy s ≡ true) ↔ IsTidy s
  pub joint : (round : ℕ) (left right : State) (steps : List JoinStep) (last : Joining)
      → IsWholeJoin k.lines.know flow defs left right steps last
      → AreJointAtoms round flow.thresholds last (given_by k round left right last)
  pub same : (s t : State) → Made flow defs s → Made flow defs t → (k.same s t ≡ true)
      ↔ ((f : ℕ → ℕ) × (back : ℕ → ℕ) × AreSameUnder f back s t)

-- there are such atoms for all whole joins, as a function of the pass and the join
abbrev pub JointIsThere : Type 0
JointIsThere =
    (know : State → Test) (flow : Flow) (defs : List Def) → KnowsStates flow defs know
    → (joint : ℕ → Joining → List Atom)
    × ((round : ℕ) (left right : State) (steps : List JoinStep) (last : Joining)
    → IsWholeJoin know flow defs left right steps last
    → AreJointAtoms round flow.thresholds last (result_of left right last (joint round last)))

-- C2 is judged by its instances
abbrev pub OpeningIsJudged : Type 0
OpeningIsJudged =
    (k : Lore) (flow : Flow) (defs : List Def) (g : Setting) (tries : List (List JoinStep)) (b : Path)
    → IsRight k flow defs → Made flow defs b.state → AllByRecursion (Made flow defs) (states_at b.point g.heads)
    → IsJudged (opening_state k defs g tries b) (OpensState (basis k defs) g tries b [])

-- a well-made state that is numbered anew is well made
abbrev pub AnewIsMade : Type 0
AnewIsMade = (flow : Flow) (defs : List Def) (s : State) → Made flow defs s → Made flow defs (anew s)

-- C3 is judged by its instances
abbrev pub JoiningIsJudged : Type 0
JoiningIsJudged =
    (k : Lore) (flow : Flow) (defs : List Def) (round : ℕ) (g : Setting) (j : ℕ) (steps : List JoinStep) (b : Path)
    → IsRight k flow defs → Made flow defs b.state → AllByRecursion (Made flow defs) (states_at b.point g.heads)
    → IsJudged (joining_state k defs round g j steps b) (JoinsState (basis k defs) round flow.thresholds g j steps b [])

-- ---- whole chains

-- the last pass of a final legal chain changes nothing: it ends every branch over the states of cuts as they are at
-- the end
abbrev pub FinalChainHasLastPass : Type 0
FinalChainHasLastPass =
    (know : State → Test) (flow : Flow) (defs : List Def) (lines : List Line) (c : IsLegalChain know flow defs lines)
    → IsValid flow defs → KnowsStates flow defs know → IsFinal c.passes
    → IsLastPass flow defs c.cuts c.heads (last_pass c.passes) c.stuck

-- so every run that faults is at a stuck branch of its last pass, at its fault or before it
abbrev pub FinalChainFindsFaults : Type 0
FinalChainFindsFaults =
    (know : State → Test) (flow : Flow) (defs : List Def) (lines : List Line) (c : IsLegalChain know flow defs lines)
    → IsValid flow defs → KnowsStates flow defs know → IsFinal c.passes → FaultsOnlyStuck flow defs c.stuck
