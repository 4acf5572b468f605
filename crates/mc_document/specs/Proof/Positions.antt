-- Where a document stands of which some lines are read.
use Rattle.std.specs.Prelude.{◌≡◌, ℕ, Bool, true, false, List, [], Result, Ok, Err, length}
use Rattle.mc_base.specs.declared.ids.PointId.{PointId}
use Rattle.mc_lines.specs.declared.cert.line.Line.{Line}
use Rattle.mc_flow.specs.declared.defs.rules.Def.{Def}
use Rattle.mc_flow.specs.declared.graph.Flow.{Flow}
use Rattle.mc_state.specs.declared.line.Form.{Form}
use Rattle.mc_state.specs.declared.raw_state.RawState.{RawState}
use Rattle.mc_kernel.specs.Branches.{Head, Path}
use Rattle.mc_kernel.specs.Certificates.{states_of}
use Rattle.mc_kernel.specs.Judges.{Knowledge}
use Rattle.mc_kernel.specs.Readings.{Reading, Stage, finished, reading_line}
use Rattle.mc_kernel.specs.Reading.Documents.{IsJudge, IsKept}
use Rattle.mc_document.specs.declared.proof.fault.ApplyFault.{ApplyFault}
use Rattle.mc_document.specs.declared.proof.fault.ApplyFault.TheVariants.{Premise, NoMemory}
use Rattle.mc_document.specs.declared.proof.fault.Complete.{Complete}

-- a flow graph and definitions, a document's form, how far it is read, its cuts, the states of its heads, the branches
-- that are open, the first of them first, how many are stuck, and whether it is lost, as there was no memory for a line
pub record Position : Type 0 where
  pub flow : Flow
  pub defs : List Def
  pub form : Form
  pub stage : Stage
  pub cuts : List PointId
  pub heads : List Head
  pub branches : List Path
  pub stuck : ℕ
  pub lost : Bool

-- where a document stands: its heads are states, however they were written, and its stuck branches are counted
abbrev pub position_of : Flow → List Def → Reading → Position
position_of flow defs r =
    record {
      flow = flow;
      defs = defs;
      form = r.form;
      stage = r.stage;
      cuts = r.cuts;
      heads = states_of r.heads;
      branches = r.branches;
      stuck = length r.stuck;
      lost = false;
    }

-- a document that is kept stands here, and this is a right judge
pub record Stands (k : Knowledge) (well : RawState → Bool) (r : Reading) (p : Position) : Type 0 where
  pub judge : IsJudge k well p.flow p.defs
  pub kept : IsKept p.flow p.defs r
  pub here : position_of p.flow p.defs r ≡ p

-- whatever document stood here, it becomes one that stands there by the line
abbrev pub IsApplied : Line → Position → Position → Type 0
IsApplied l old new =
    (k : Knowledge) (well : RawState → Bool) (r : Reading) → Stands k well r old
    → (next : Reading) × (reading_line k well old.flow old.defs l r ≡ Ok next) × (position_of old.flow old.defs next ≡ new)

-- whatever document stands here, of the line this premise is the first that is unmet
abbrev pub IsRefusedHere : Line → Position → ℕ → Type 0
IsRefusedHere l p premise =
    (k : Knowledge) (well : RawState → Bool) (r : Reading) → Stands k well r p
    → reading_line k well p.flow p.defs l r ≡ Err premise

-- the document is lost: no branch is open, and it has not ended. It takes no line, and so never ends
pub record IsLost (p : Position) : Type 0 where
  pub gone : p.lost ≡ true
  pub closed : p.branches ≡ []
  pub unended : p.stage ≡ finished → ⊥

-- a line is applied, or refused where the document stood; or this holds, where memory is missing
abbrev pub AppliesOr : Type 0 → Line → Position → Position → Result Unit ApplyFault → Type 0
AppliesOr Missing l old new (Ok done) = IsApplied l old new
AppliesOr Missing l old new (Err (Premise k)) = IsRefusedHere l old k × (new ≡ old)
AppliesOr Missing l old new (Err NoMemory) = Missing

-- a line is applied, or refused where the document stood; where memory is missing the document is lost
abbrev pub Applies : Line → Position → Position → Result Unit ApplyFault → Type 0
Applies l old new result = AppliesOr (IsLost new) l old new result

-- the same of a line that is tried, where nothing is said yet of a document for which memory is missing
abbrev pub Tries : Line → Position → Position → Result Unit ApplyFault → Type 0
Tries l old new result = AppliesOr (Unit {0}) l old new result

-- the document has ended, and is of this form with so many stuck branches
pub record IsComplete (p : Position) (c : Complete) : Type 0 where
  pub ended : p.stage ≡ finished
  pub form : c.form ≡ p.form
  pub alarms : c.alarms ≡ p.stuck
