-- Valid certificates, and the last pass of a chain.
use Rattle.std.specs.Prelude.{◌≡◌, ◌≤◌, ◌⊎◌, ℕ, zero, suc, List, [], ◌∷◌, ◌++◌, Contains, map}
use Rattle.std.specs.List.{AllByRecursion}
use Rattle.mc_base.specs.declared.ids.PointId.{PointId}
use Rattle.mc_base.specs.declared.plain.FaultKind.{FaultKind}
use Rattle.mc_base.specs.declared.text.place.Place.{Place}
use Rattle.mc_base.specs.Nodes.{Valuation}
use Rattle.mc_flow.specs.Runs.{next, fault, Reaches, Final}
use Rattle.mc_flow.specs.Heap.Choices.{Choice}
use Rattle.mc_flow.specs.declared.defs.rules.Def.{Def}
use Rattle.mc_flow.specs.declared.graph.Flow.{Flow}
use Rattle.mc_flow.specs.Steps.{Config, Step, start, IsSafeFlow}
use Rattle.mc_flow.specs.Valid.{IsValid}
use Rattle.mc_state.specs.declared.line.Form.TheVariants.{Certificate, Chain}
use Rattle.mc_lines.specs.declared.cert.line.Line.{Line}
use Rattle.mc_lines.specs.declared.cert.line.Line.TheVariants.{Header, Cut, Head, End}
use Rattle.mc_state.specs.declared.line.Version.TheVariants.{One}
use Rattle.mc_state.specs.declared.raw_state.RawState.{RawState}
use Rattle.mc_state.specs.Fits.{IsBounded}
use Rattle.mc_state.specs.RawStates.{state_of, IsWellFormedRaw}
use Rattle.mc_rules_steps.specs.Laws.{IsAt}
use Rattle.mc_kernel.specs.Branches as branches
use Rattle.mc_kernel.specs.Branches.{Path, AreCuts, roots}
use Rattle.mc_kernel.specs.Instances.{Reads}

-- a head as a document writes it
abbrev pub WrittenHead : Type 0
WrittenHead = PointId × RawState

-- heads stand in the order of their cuts
abbrev pub AreOrdered : List WrittenHead → Type 0
AreOrdered [] = Unit {0}
AreOrdered (h ∷ []) = Unit {0}
AreOrdered (h ∷ k ∷ heads) = (h.0.0 ≤ k.0.0) × AreOrdered (k ∷ heads)

-- each is at a cut, and its state is well formed
abbrev pub AreHeads : Flow → List Def → List PointId → List WrittenHead → Type 0
AreHeads flow defs cuts heads =
    AllByRecursion (λ h. Contains cuts h.0 × IsWellFormedRaw defs flow.vars flow.structs.list h.1) heads

-- the states of heads
abbrev pub states_of : List WrittenHead → List branches.Head
states_of heads = map (λ h. (h.0, state_of h.1)) heads

-- a valid certificate: its header, its cuts, its heads in order, lines that end every branch from the entry and the heads, and the end
pub record IsValidCertificate (flow : Flow) (defs : List Def) (lines : List Line) : Type 0 where
  pub cuts : List PointId
  pub heads : List WrittenHead
  pub rules : List Line
  pub spelled : lines ≡ Header One Certificate ∷ (map Cut cuts ++ (map (λ h. Head h.0 h.1) heads ++ (rules ++ End ∷ [])))
  pub cuts_are : AreCuts flow cuts
  pub ordered : AreOrdered heads
  pub heads_are : AreHeads flow defs cuts heads
  pub reads : Reads flow defs (record { form = Certificate; cuts = cuts; heads = states_of heads }) rules (roots flow (states_of heads)) []

-- a pass of a chain that changes nothing, over the states of cuts: lines that end every branch, some of which are stuck
pub record IsLastPass (flow : Flow) (defs : List Def) (cuts : List PointId) (heads : List branches.Head)
    (rules : List Line) (stuck : List Path) : Type 0 where
  pub cuts_are : AreCuts flow cuts
  pub at_cuts : AllByRecursion (λ h. Contains cuts h.0) heads
  pub bounded : AllByRecursion (λ h. IsBounded h.1) heads
  pub reads : Reads flow defs (record { form = Chain; cuts = cuts; heads = heads }) rules (roots flow heads) stuck

-- the configuration is at the point of a stuck branch, and stands for its state
abbrev pub IsAtStuck : List Def → List Path → Config → Type 0
IsAtStuck defs stuck c = (b : Path) × Contains stuck b × ((v : Valuation) × IsAt defs v c b.point b.state)

-- a run that comes to this end within n steps has a configuration of a kind, at its last step or before it
abbrev pub Visits : (Config → Type 0) → Flow → List Def → ℕ → Config → List Choice → Final → Type 0
Visits P flow defs zero c choices f = ⊥
Visits P flow defs (suc n) c choices f =
    (P c × Reaches (Step flow defs) (suc n) c choices f)
    ⊎ ((d : Config) × (rest : List Choice) × Step flow defs c choices (next d rest) × Visits P flow defs n d rest f)

-- every run that faults is at a stuck branch, at its fault or before it
abbrev pub FaultsOnlyStuck : Flow → List Def → List Path → Type 0
FaultsOnlyStuck flow defs stuck =
    (n : ℕ) (choices : List Choice) (kind : FaultKind) (place : Place)
    → Reaches (Step flow defs) n (start flow) choices (fault kind place)
    → Visits (IsAtStuck defs stuck) flow defs n (start flow) choices (fault kind place)

-- a valid certificate means that no run has a fault
abbrev pub CertificateIsSafe : Type 0
CertificateIsSafe = (flow : Flow) (defs : List Def) (lines : List Line) → IsValid flow defs
    → IsValidCertificate flow defs lines → IsSafeFlow flow defs

-- the last pass of a chain means that only runs that come to a stuck branch fault
abbrev pub LastPassFindsFaults : Type 0
LastPassFindsFaults =
    (flow : Flow) (defs : List Def) (cuts : List PointId) (heads : List branches.Head) (rules : List Line) (stuck : List Path)
    → IsValid flow defs → IsLastPass flow defs cuts heads rules stuck → FaultsOnlyStuck flow defs stuck
