-- Documents of both forms, of which some lines are read.
use Rattle.std.specs.Prelude.{◌≡◌, ℕ, List, Result, Ok, Err}
use Rattle.mc_lines.specs.declared.cert.line.Line.{Line}
use Rattle.mc_flow.specs.declared.defs.rules.Def.{Def}
use Rattle.mc_flow.specs.declared.graph.Flow.{Flow}
use Rattle.mc_state.specs.Premises.{Judged, then_give}
use Rattle.mc_state.specs.declared.line.Form.{Form}
use Rattle.mc_state.specs.declared.line.Form.TheVariants.{Certificate, Chain}
use Rattle.mc_kernel.specs.Readings as certificates
use Rattle.mc_document.specs.declared.proof.fault.ApplyFault.{ApplyFault}
use Rattle.mc_document.specs.declared.proof.fault.ApplyFault.TheVariants.{Premise, NoMemory}
use Rattle.mc_document.specs.Proof.Positions as proofs
use Rattle.mc_joins.specs.Chains.InOrder.{in_order}
use Rattle.mc_joins.specs.Chains.Judges as chains
use Rattle.mc_joins.specs.Chains.Judges.{Lore}
use Rattle.mc_judge.specs.declared.judge.open.OpenDocument.{OpenDocument}
use Rattle.mc_judge.specs.declared.judge.open.OpenDocument.TheVariants as opened
use Rattle.mc_judge.specs.Passes.Positions as passes

-- a certificate or a chain of which some lines are read
pub data Document : Type 0 where
  certificate : certificates.Reading → Document
  chain : chains.Reading → Document

-- nothing but its header is read
abbrev pub begun : Form → Document
begun Certificate = certificate (certificates.begun Certificate)
begun Chain = chain chains.begun_chain

-- what a document becomes by a line, or the first premise of the line that is unmet
abbrev pub read_line : Lore → Flow → List Def → Line → Document → Judged Document
read_line k flow defs l (certificate r) = then_give certificate (certificates.reading_line k.lines k.formed flow defs l r)
read_line k flow defs l (chain r) = then_give chain (chains.reading_line k flow defs l r)

-- what a document of a form becomes by the lines after its header, or the number of the first refused one with its first
-- unmet premise
abbrev pub read_document : Lore → Flow → List Def → Form → List Line → Result Document (ℕ × ℕ)
read_document k flow defs form lines = in_order (read_line k flow defs) 2 lines (begun form)

-- its end line is read
abbrev pub IsEnded : Document → Type 0
IsEnded (certificate r) = r.stage ≡ certificates.finished
IsEnded (chain r) = r.stage ≡ chains.finished

-- ---- open documents

-- its flow graph
abbrev pub flow_of : OpenDocument → Flow
flow_of (opened.Certificate p) = p.flow
flow_of (opened.Chain p) = p.proof.flow

-- its definitions
abbrev pub defs_of : OpenDocument → List Def
defs_of (opened.Certificate p) = p.defs
defs_of (opened.Chain p) = p.proof.defs

-- a document that is kept stands here, by a right lore
abbrev pub StandsAs : Lore → Document → OpenDocument → Type 0
StandsAs k (certificate r) (opened.Certificate p) = proofs.Stands k.lines k.formed r p
StandsAs k (certificate r) (opened.Chain p) = ⊥
StandsAs k (chain r) (opened.Certificate p) = ⊥
StandsAs k (chain r) (opened.Chain p) = passes.Stands k r p

-- it does so for a flow graph and definitions
pub record StandsFor (k : Lore) (flow : Flow) (defs : List Def) (d : Document) (p : OpenDocument) : Type 0 where
  pub flow_is : flow_of p ≡ flow
  pub defs_are : defs_of p ≡ defs
  pub stands : StandsAs k d p

-- whatever document stood here, it becomes one that stands there by the line
abbrev pub IsTaken : Line → OpenDocument → OpenDocument → Type 0
IsTaken l old new =
    (k : Lore) (flow : Flow) (defs : List Def) (d : Document) → StandsFor k flow defs d old
    → (next : Document) × (read_line k flow defs l d ≡ Ok next) × StandsFor k flow defs next new

-- whatever document stands here, of the line this premise is the first that is unmet
abbrev pub IsRefusedHere : Line → OpenDocument → ℕ → Type 0
IsRefusedHere l p premise =
    (k : Lore) (flow : Flow) (defs : List Def) (d : Document) → StandsFor k flow defs d p
    → read_line k flow defs l d ≡ Err premise

-- a line is taken, or refused where the document stood; or memory is missing
abbrev pub Takes : Line → OpenDocument → OpenDocument → Result Unit ApplyFault → Type 0
Takes l old new (Ok done) = IsTaken l old new
Takes l old new (Err (Premise k)) = IsRefusedHere l old k
Takes l old new (Err NoMemory) = Unit {0}
