-- What holds of documents whose lines are read one after the other.
use Rattle.std.specs.Prelude.{◌≡◌, ◌↔◌, ◌⊎◌, ◌+◌, ℕ, Bool, true, List, [], ◌∷◌, ◌++◌, Ok, Err, length}
use Rattle.std.specs.List.{AllByRecursion}
use Rattle.mc_lines.specs.declared.cert.line.Line.{Line}
use Rattle.mc_lines.specs.declared.cert.line.Line.TheVariants.{Header}
use Rattle.mc_flow.specs.declared.defs.rules.Def.{Def}
use Rattle.mc_flow.specs.declared.graph.Flow.{Flow}
use Rattle.mc_flow.specs.Valid.{IsValid}
use Rattle.mc_state.specs.declared.line.Form.{Form}
use Rattle.mc_state.specs.declared.line.Form.TheVariants.{Certificate, Chain}
use Rattle.mc_state.specs.declared.line.Version.TheVariants.{One}
use Rattle.mc_state.specs.declared.raw_state.RawState.{RawState}
use Rattle.mc_kernel.specs.Branches.{Path, Setting}
use Rattle.mc_kernel.specs.Certificates.{IsValidCertificate}
use Rattle.mc_kernel.specs.Instances.{IsInstance}
use Rattle.mc_kernel.specs.Judges.{Knowledge}
use Rattle.mc_kernel.specs.Readings.{Reading, finished, begun, behind, reading_line}
use Rattle.mc_kernel.specs.Reading.Documents.{IsMade, IsJudge, IsAskedHere, IsKept, IsReadAt, is_rule, reading_document}
use Rattle.mc_kernel.specs.Reading.Documents.{Ends, IsOpen, IsRefused, IsShortChain}

-- ---- lines

-- what a line makes of a branch with a well-made state are branches with well-made states
abbrev pub LinesMakeWellMade : Type 0
LinesMakeWellMade =
    (flow : Flow) (defs : List Def) (g : Setting) (l : Line) (b : Path) (next : List Path)
    → IsValid flow defs → IsMade flow defs b → IsInstance flow defs g l b next → AllByRecursion (IsMade flow defs) next

-- nothing but its header read, a document is kept
abbrev pub BegunIsKept : Type 0
BegunIsKept = (flow : Flow) (defs : List Def) (form : Form) → IsKept flow defs (begun form)

-- what is kept stays so, line by line
abbrev pub LinesKeep : Type 0
LinesKeep =
    (k : Knowledge) (well : RawState → Bool) (flow : Flow) (defs : List Def) (l : Line) (r new : Reading)
    → IsValid flow defs → IsJudge k well flow defs → IsKept flow defs r
    → reading_line k well flow defs l r ≡ Ok new → IsKept flow defs new

-- where what is asked of the first open branch is answered rightly, a line of a rule is read exactly where it is an
-- instance there, and this comes of it
abbrev pub RulesAreRead : Type 0
RulesAreRead =
    (k : Knowledge) (well : RawState → Bool) (flow : Flow) (defs : List Def) (l : Line) (r new : Reading)
    → IsAskedHere k flow defs r → is_rule l ≡ true
    → (reading_line k well flow defs l r ≡ Ok new) ↔ IsReadAt flow defs l r new

-- ---- whole documents

-- the lines after a certificate's header end it exactly where the document is a valid certificate
abbrev pub CertificatesAreRead : Type 0
CertificatesAreRead =
    (k : Knowledge) (well : RawState → Bool) (flow : Flow) (defs : List Def) (lines : List Line)
    → IsValid flow defs → IsJudge k well flow defs
    → Ends k well flow defs Certificate lines [] ↔ IsValidCertificate flow defs (Header One Certificate ∷ lines)

-- the lines after a chain's header end it exactly where the document is a chain of one pass, with the same stuck
-- branches
abbrev pub ChainsAreRead : Type 0
ChainsAreRead =
    (k : Knowledge) (well : RawState → Bool) (flow : Flow) (defs : List Def) (lines : List Line) (stuck : List Path)
    → IsValid flow defs → IsJudge k well flow defs
    → Ends k well flow defs Chain lines stuck ↔ IsShortChain flow defs (Header One Chain ∷ lines) stuck

-- a certificate that ends has no stuck branch
abbrev pub CertificatesStickNowhere : Type 0
CertificatesStickNowhere =
    (k : Knowledge) (well : RawState → Bool) (flow : Flow) (defs : List Def) (lines : List Line) (stuck : List Path)
    → IsValid flow defs → IsJudge k well flow defs → Ends k well flow defs Certificate lines stuck → stuck ≡ []

-- a document that has ended has no open branch
abbrev pub EndedIsClosed : Type 0
EndedIsClosed =
    (k : Knowledge) (well : RawState → Bool) (flow : Flow) (defs : List Def) (form : Form) (lines : List Line)
    (last : Reading)
    → reading_document k well flow defs form lines ≡ Ok last → last.stage ≡ finished → last.branches ≡ []

-- a document with one more line is what the line makes of it, or is refused at that line
abbrev pub LinesAreAdded : Type 0
LinesAreAdded =
    (k : Knowledge) (well : RawState → Bool) (flow : Flow) (defs : List Def) (form : Form) (lines : List Line)
    (l : Line) (r : Reading)
    → reading_document k well flow defs form lines ≡ Ok r
    → reading_document k well flow defs form (lines ++ l ∷ [])
    ≡ behind (2 + length lines) (reading_line k well flow defs l r) (λ new. Ok new)

-- ---- refused lines

-- reading answers a number and a premise exactly where this line is refused with it
abbrev pub RefusalsAreRead : Type 0
RefusalsAreRead =
    (k : Knowledge) (well : RawState → Bool) (flow : Flow) (defs : List Def) (form : Form) (lines : List Line)
    (number premise : ℕ)
    → (reading_document k well flow defs form lines ≡ Err (number, premise))
    ↔ IsRefused k well flow defs form lines number premise

-- one line is refused at most, with one premise
abbrev pub RefusalIsOne : Type 0
RefusalIsOne =
    (k : Knowledge) (well : RawState → Bool) (flow : Flow) (defs : List Def) (form : Form) (lines : List Line)
    (n p m q : ℕ)
    → IsRefused k well flow defs form lines n p → IsRefused k well flow defs form lines m q → (n ≡ m) × (p ≡ q)

-- a document has ended, is open, or has a refused line
abbrev pub DocumentsAreDecided : Type 0
DocumentsAreDecided =
    (k : Knowledge) (well : RawState → Bool) (flow : Flow) (defs : List Def) (form : Form) (lines : List Line)
    → ((stuck : List Path) × Ends k well flow defs form lines stuck)
    ⊎ (IsOpen k well flow defs form lines ⊎ ((n : ℕ) × (p : ℕ) × IsRefused k well flow defs form lines n p))

-- one that has ended or is open has no refused line
abbrev pub ReadIsNotRefused : Type 0
ReadIsNotRefused =
    (k : Knowledge) (well : RawState → Bool) (flow : Flow) (defs : List Def) (form : Form) (lines : List Line)
    (last : Reading) (n p : ℕ)
    → reading_document k well flow defs form lines ≡ Ok last → IsRefused k well flow defs form lines n p → ⊥

-- no valid certificate goes on from lines of which one is refused
abbrev pub RefusedIsNeverValid : Type 0
RefusedIsNeverValid =
    (k : Knowledge) (well : RawState → Bool) (flow : Flow) (defs : List Def) (lines more : List Line) (n p : ℕ)
    → IsValid flow defs → IsJudge k well flow defs → IsRefused k well flow defs Certificate lines n p
    → IsValidCertificate flow defs (Header One Certificate ∷ (lines ++ more)) → ⊥

-- what judges rightly judges alike: two right judges read each document alike, so what is refused and why is the
-- document's own
abbrev pub JudgesAgree : Type 0
JudgesAgree =
    (k : Knowledge) (well : RawState → Bool) (other : Knowledge) (formed : RawState → Bool) (flow : Flow)
    (defs : List Def) (form : Form) (lines : List Line)
    → IsValid flow defs → IsJudge k well flow defs → IsJudge other formed flow defs
    → reading_document k well flow defs form lines ≡ reading_document other formed flow defs form lines
