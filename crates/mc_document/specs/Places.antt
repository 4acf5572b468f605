-- Where lines stand: at which points there are cuts, and which lines stand on side branches.
use Rattle.std.specs.Prelude.{◌≡◌, ◌||◌, ◌++◌, Bool, true, false, List, [], ◌∷◌, Ok}
use Rattle.mc_base.specs.declared.ids.PointId.{PointId}
use Rattle.mc_lines.specs.declared.cert.line.Line.{Line}
use Rattle.mc_lines.specs.declared.cert.line.Line.TheVariants as line
use Rattle.mc_flow.specs.declared.defs.rules.Def.{Def}
use Rattle.mc_flow.specs.declared.graph.Flow.{Flow}
use Rattle.mc_state.specs.declared.line.Form.{Form}
use Rattle.mc_state.specs.declared.line.Form.TheVariants.{Certificate}
use Rattle.mc_state.specs.declared.line.Version.TheVariants.{One}
use Rattle.mc_state.specs.declared.raw_state.RawState.{RawState}
use Rattle.mc_kernel.specs.Branches.{Path}
use Rattle.mc_kernel.specs.Certificates.{IsValidCertificate}
use Rattle.mc_kernel.specs.Judges.{Knowledge, is_plain}
use Rattle.mc_kernel.specs.Readings.{Reading, begun, reading_line}
use Rattle.mc_kernel.specs.Reading.Documents.{IsJudge}

-- ---- cuts

-- the point of a cut line
abbrev pub cut_of : Line → List PointId
cut_of (line.Cut p) = p ∷ []
cut_of other = []

-- the points of the cut lines among these
abbrev pub cuts_of : List Line → List PointId
cuts_of [] = []
cuts_of (l ∷ lines) = cut_of l ++ cuts_of lines

-- ---- side branches

-- a line may stand on a side branch: it folds, names, merges, drops or forgets, or ends the branch, as its state is
-- inconsistent or its goal is met
abbrev pub may_stand_aside : Line → Bool
may_stand_aside (line.L3 fold) = true
may_stand_aside (line.L4 fold) = true
may_stand_aside (line.L5 first second) = true
may_stand_aside (line.L6 first second) = true
may_stand_aside (line.L7 pred at args stop ends) = true
may_stand_aside (line.L8 node add kind) = true
may_stand_aside (line.L9 keep gone) = true
may_stand_aside (line.L10 edge) = true
may_stand_aside (line.L11 node) = true
may_stand_aside line.L12 = true
may_stand_aside (line.L14 edge) = true
may_stand_aside other = false

-- a line may stand at the first of these branches
abbrev pub may_stand : Line → List Path → Bool
may_stand l [] = true
may_stand l (b ∷ others) = is_plain b || may_stand_aside l

-- each of the lines may stand where it is read
abbrev pub AreInPlace : Knowledge → (RawState → Bool) → Flow → List Def → List Line → Reading → Type 0
AreInPlace k well flow defs [] r = Unit {0}
AreInPlace k well flow defs (l ∷ lines) r =
    (may_stand l r.branches ≡ true)
    × ((next : Reading) → reading_line k well flow defs l r ≡ Ok next → AreInPlace k well flow defs lines next)

-- whoever judges rightly, each line of the document may stand where it is read
pub record FitsSides (flow : Flow) (defs : List Def) (form : Form) (lines : List Line) : Type 0 where
  pub behind : List Line
  pub spelled : lines ≡ line.Header One form ∷ behind
  pub in_place : (k : Knowledge) (well : RawState → Bool) → IsJudge k well flow defs → AreInPlace k well flow defs behind (begun form)

-- a valid certificate, on whose side branches no line stands but those that may
abbrev pub IsCertificateInPlace : Flow → List Def → List Line → Type 0
IsCertificateInPlace flow defs lines = IsValidCertificate flow defs lines × FitsSides flow defs Certificate lines

-- the cuts of the document are the loop heads, and on its side branches no line stands but those that may
pub record HasPlaces (flow : Flow) (defs : List Def) (form : Form) (lines : List Line) : Type 0 where
  pub cuts : cuts_of lines ≡ flow.heads
  pub sides : FitsSides flow defs form lines
