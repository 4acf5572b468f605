-- Where a chain stands of which some lines are read.
use Rattle.std.specs.Prelude.{◌≡◌, false, ℕ, List, Result, Ok, Err, length}
use Rattle.mc_lines.specs.declared.cert.line.Line.{Line}
use Rattle.mc_flow.specs.declared.defs.rules.Def.{Def}
use Rattle.mc_flow.specs.declared.graph.Flow.{Flow}
use Rattle.mc_state.specs.declared.line.Form.TheVariants.{Chain}
use Rattle.mc_kernel.specs.Readings as readings
use Rattle.mc_document.specs.declared.proof.fault.ApplyFault.{ApplyFault}
use Rattle.mc_document.specs.declared.proof.fault.ApplyFault.TheVariants.{Premise, NoMemory}
use Rattle.mc_document.specs.Proof.Positions.{Position, IsLost}
use Rattle.mc_joins.specs.Chains.Judges.{Lore, Reading, Stage, cutting, heading, passing, finished, reading_line}
use Rattle.mc_joins.specs.Chains.Laws.{IsRight}
use Rattle.mc_joins.specs.Chains.Read.{IsKept}
use Rattle.mc_judge.specs.declared.passes.passes.Passes.{Passes}
use Rattle.mc_judge.specs.declared.passes.passes.WholeChain.{WholeChain}

-- how far a chain is read: in a pass rule lines are read
abbrev pub stage_of : Stage → readings.Stage
stage_of cutting = readings.cutting
stage_of heading = readings.heading
stage_of passing = readings.ruling
stage_of finished = readings.finished

-- where a chain stands, its stuck branches counted
abbrev pub position_of : Flow → List Def → Reading → Position
position_of flow defs r =
    record {
      flow = flow;
      defs = defs;
      form = Chain;
      stage = stage_of r.stage;
      cuts = r.cuts;
      heads = r.heads;
      branches = r.branches;
      stuck = length r.stuck;
      lost = false;
    }

-- and in which pass, and whether that has changed the states of cuts
abbrev pub passes_of : Flow → List Def → Reading → Passes
passes_of flow defs r = record { proof = position_of flow defs r; round = r.round; changed = r.changed }

-- a chain that is kept stands here, and this is a right lore
pub record Stands (k : Lore) (r : Reading) (p : Passes) : Type 0 where
  pub right : IsRight k p.proof.flow p.proof.defs
  pub kept : IsKept p.proof.flow p.proof.defs r
  pub here : passes_of p.proof.flow p.proof.defs r ≡ p

-- whatever chain stood here, it becomes one that stands there by the line
abbrev pub IsApplied : Line → Passes → Passes → Type 0
IsApplied l old new =
    (k : Lore) (r : Reading) → Stands k r old
    → (next : Reading) × (reading_line k old.proof.flow old.proof.defs l r ≡ Ok next)
    × (passes_of old.proof.flow old.proof.defs next ≡ new)

-- whatever chain stands here, of the line this premise is the first that is unmet
abbrev pub IsRefusedHere : Line → Passes → ℕ → Type 0
IsRefusedHere l p premise =
    (k : Lore) (r : Reading) → Stands k r p → reading_line k p.proof.flow p.proof.defs l r ≡ Err premise

-- a line is applied, or refused where the chain stood; or this holds, where memory is missing
abbrev pub AppliesOr : Type 0 → Line → Passes → Passes → Result Unit ApplyFault → Type 0
AppliesOr Missing l old new (Ok done) = IsApplied l old new
AppliesOr Missing l old new (Err (Premise k)) = IsRefusedHere l old k × (new ≡ old)
AppliesOr Missing l old new (Err NoMemory) = Missing

-- a line is applied, or refused where the chain stood; where memory is missing the chain is lost
abbrev pub Applies : Line → Passes → Passes → Result Unit ApplyFault → Type 0
Applies l old new result = AppliesOr (IsLost new.proof) l old new result

-- the same of a line that is tried, where nothing is said yet of a chain for which memory is missing
abbrev pub Tries : Line → Passes → Passes → Result Unit ApplyFault → Type 0
Tries l old new result = AppliesOr (Unit {0}) l old new result

-- the chain has ended, with so many stuck branches, and its last pass has changed the states of cuts or not
pub record IsWhole (p : Passes) (c : WholeChain) : Type 0 where
  pub ended : p.proof.stage ≡ readings.finished
  pub alarms : c.alarms ≡ p.proof.stuck
  pub changed : c.changed ≡ p.changed
