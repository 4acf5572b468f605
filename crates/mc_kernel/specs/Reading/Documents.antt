-- What comes of a document whose lines are read one after the other.
use Rattle.std.specs.Prelude.{◌≡◌, ◌↔◌, ◌+◌, ℕ, Bool, true, false, List, [], ◌∷◌, ◌++◌, Result, Ok, Err, Some, length}
use Rattle.std.specs.Prelude.{map}
use Rattle.std.specs.List.{AllByRecursion}
use Rattle.mc_base.specs.declared.ids.PointId.{PointId}
use Rattle.mc_lines.specs.declared.cert.line.Line.{Line}
use Rattle.mc_lines.specs.declared.cert.line.Line.TheVariants as line
use Rattle.mc_flow.specs.declared.defs.rules.Def.{Def}
use Rattle.mc_flow.specs.declared.graph.Flow.{Flow}
use Rattle.mc_state.specs.declared.line.Form.{Form}
use Rattle.mc_state.specs.declared.line.Form.TheVariants.{Chain}
use Rattle.mc_state.specs.declared.line.Version.TheVariants.{One}
use Rattle.mc_state.specs.declared.raw_state.RawState.{RawState}
use Rattle.mc_state.specs.Fits.{IsWellMade}
use Rattle.mc_state.specs.RawStates.{IsWellFormedRaw}
use Rattle.mc_kernel.specs.Branches.{Path}
use Rattle.mc_kernel.specs.Certificates.{AreHeads, AreOrdered, IsLastPass, WrittenHead, states_of}
use Rattle.mc_kernel.specs.Instances.{IsInstance}
use Rattle.mc_kernel.specs.JudgedLaws.{IsAsked}
use Rattle.mc_kernel.specs.Judges.{Knowledge}
use Rattle.mc_kernel.specs.Readings.{Reading, finished, begun, setting_of, ready, marked, reading_line, reading_lines}

-- the branch's state is well made for the flow graph and the definitions
abbrev pub IsMade : Flow → List Def → Path → Type 0
IsMade flow defs b = IsWellMade defs flow.vars flow.structs.list b.state

-- what lines are judged by is right: what is asked of a branch with a well-made state, and which written states are
-- well formed
pub record IsJudge (k : Knowledge) (well : RawState → Bool) (flow : Flow) (defs : List Def) : Type 0 where
  pub asked : (b : Path) → IsMade flow defs b → IsAsked k flow defs b
  pub formed : (raw : RawState) → (well raw ≡ true) ↔ IsWellFormedRaw defs flow.vars flow.structs.list raw

-- what a document of a form becomes by the lines after its header, or the number of the first refused line with its
-- first unmet premise
abbrev pub reading_document : Knowledge → (RawState → Bool) → Flow → List Def → Form → List Line
    → Result Reading (ℕ × ℕ)
reading_document k well flow defs form lines = reading_lines k well flow defs 2 lines (begun form)

-- the lines after its header end the document, and these branches are stuck
pub record Ends (k : Knowledge) (well : RawState → Bool) (flow : Flow) (defs : List Def) (form : Form)
    (lines : List Line) (stuck : List Path) : Type 0 where
  pub last : Reading
  pub read : reading_document k well flow defs form lines ≡ Ok last
  pub ended : last.stage ≡ finished
  pub stuck_are : last.stuck ≡ stuck

-- the lines after its header are read, and the document has not ended
pub record IsOpen (k : Knowledge) (well : RawState → Bool) (flow : Flow) (defs : List Def) (form : Form)
    (lines : List Line) : Type 0 where
  pub last : Reading
  pub read : reading_document k well flow defs form lines ≡ Ok last
  pub not_ended : last.stage ≡ finished → ⊥

-- a line is refused: the lines before it are read, and of its premises this is the first that is unmet
pub record IsRefused (k : Knowledge) (well : RawState → Bool) (flow : Flow) (defs : List Def) (form : Form)
    (lines : List Line) (number premise : ℕ) : Type 0 where
  pub before : List Line
  pub line : Line
  pub later : List Line
  pub spelled : lines ≡ before ++ line ∷ later
  pub numbered : number ≡ 2 + length before
  pub reading : Reading
  pub read : reading_document k well flow defs form before ≡ Ok reading
  pub unmet : reading_line k well flow defs line reading ≡ Err premise

-- a chain of one pass: its header, its cuts, its heads in order, its pass, lines that end every branch from the entry and the
-- heads, of which these are stuck, and the end
pub record IsShortChain (flow : Flow) (defs : List Def) (lines : List Line) (stuck : List Path) : Type 0 where
  pub cuts : List PointId
  pub heads : List WrittenHead
  pub rules : List Line
  pub spelled : lines ≡ line.Header One Chain ∷ (map line.Cut cuts ++ (map (λ h. line.Head h.0 h.1) heads ++ (line.Pass ∷ (rules ++ line.End ∷ []))))
  pub ordered : AreOrdered heads
  pub heads_are : AreHeads flow defs cuts heads
  pub pass : IsLastPass flow defs cuts (states_of heads) rules stuck

-- a document of which some lines are read has heads that are well formed, and open branches whose states are well made
pub record IsKept (flow : Flow) (defs : List Def) (r : Reading) : Type 0 where
  pub heads : AllByRecursion (λ h. IsWellFormedRaw defs flow.vars flow.structs.list h.1) r.heads
  pub branches : AllByRecursion (IsMade flow defs) r.branches

-- what is asked of the first open branch, where rule lines are read or may begin, is answered rightly
abbrev pub IsAskedHere : Knowledge → Flow → List Def → Reading → Type 0
IsAskedHere k flow defs r =
    (t : Reading) (b : Path) (others : List Path)
    → ready flow r r.stage ≡ Some t → t.branches ≡ b ∷ others → IsAsked k flow defs b

-- the line of a rule is read at the first open branch: it is an instance there, and what it gives comes in the
-- branch's place
pub record IsReadAt (flow : Flow) (defs : List Def) (l : Line) (r new : Reading) : Type 0 where
  pub begun_rules : Reading
  pub is_ready : ready flow r r.stage ≡ Some begun_rules
  pub first : Path
  pub others : List Path
  pub open_are : begun_rules.branches ≡ first ∷ others
  pub next : List Path
  pub instance : IsInstance flow defs (setting_of begun_rules) l first next
  pub gives : new ≡ record begun_rules { branches = next ++ others; stuck = begun_rules.stuck ++ marked l first }

-- a line of a rule, as against one that begins, cuts, opens or ends a document
abbrev pub is_rule : Line → Bool
is_rule (line.Header version form) = false
is_rule (line.Cut p) = false
is_rule (line.Head p raw) = false
is_rule line.Pass = false
is_rule line.End = false
is_rule other = true
