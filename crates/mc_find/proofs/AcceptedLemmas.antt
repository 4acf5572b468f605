-- What is accepted.
use Rattle.std.proofs.Common.{arith, subst, ◌≡◌, ◌<◌, ◌≤◌, ◌∙◌, Bool, true, false, IsTrue, List, [], ◌∷◌, length, refl, sym, ap}
use Rattle.std.specs.Prelude.{◌↔◌, All, Contains}
use Rattle.mc_base.specs.declared.ids.PointId.{PointId}
use Rattle.mc_lines.specs.declared.cert.line.Line.{Line}
use Rattle.mc_lines.specs.declared.cert.line.Line.TheVariants.{Header}
use Rattle.mc_flow.specs.declared.defs.rules.Def.{Def}
use Rattle.mc_flow.specs.declared.graph.Flow.{Flow}
use Rattle.mc_flow.specs.Valid.{IsValid}
use Rattle.mc_state.specs.declared.line.Form.TheVariants.{Chain}
use Rattle.mc_state.specs.declared.line.Version.TheVariants.{One}
use Rattle.mc_kernel.specs.Branches.{Path}
use Rattle.mc_kernel.specs.Oracle.Judges.{JudgesAreThere}
use Rattle.mc_kernel.specs.Readings.{Reading}
use Rattle.mc_kernel.specs.Reading.Documents.{IsShortChain}
use Rattle.mc_kernel.specs.Reading.Laws.{ChainsAreRead}
use Rattle.mc_kernel.proofs.ReadingLemmas.Rules.{same_reading}
use Rattle.mc_document.specs.Places.{IsCertificateInPlace, cuts_of}
use Rattle.mc_follow.specs.declared.report.chains.ChainReport.{ChainReport}
use Rattle.mc_follow.specs.Alarms.Walks.{ended_by}
use Rattle.mc_follow.specs.Report.Chains.{IsNoChain, IsReportOf}
use Rattle.mc_find.specs.Analysis.Findings.{HasCuts, IsFound, IsFoundChain, IsReported}

-- ---- cuts

-- what a test of points says, in other words
pub moved : (cuts cuts_are points points_are : List PointId) (is : Bool) → cuts ≡ cuts_are → points ≡ points_are → IsTrue is ↔ All (Contains cuts) points → IsTrue is ↔ All (Contains cuts_are) points_are
moved cuts cuts_are points points_are is e f told =
    subst (λ (ps : List PointId). IsTrue is ↔ All (Contains cuts_are) ps) f (subst (λ (cs : List PointId). IsTrue is ↔ All (Contains cs) points) e told)

module _ (flow : Flow) (merge : Bool) (lines : List Line) where
  abbrev AreCuts : List PointId → Type 0
  AreCuts = All (Contains (cuts_of lines))

  -- a loop head is missing
  pub some_missing : (is : Bool) → is ≡ false → IsTrue is ↔ AreCuts flow.heads → IsTrue false ↔ HasCuts flow merge lines
  some_missing is missing told = (λ e. absurd (cc e), λ has. sym missing ∙ told.1 has.heads)

  -- all loop heads are there, and the points where an `if` ends are asked for
  pub rest_told : merge ≡ true → (is also : Bool) → is ≡ true → IsTrue is ↔ AreCuts flow.heads → IsTrue also ↔ AreCuts flow.merges → IsTrue also ↔ HasCuts flow merge lines
  rest_told merges is also there told more = (
    λ all. record { heads = told.0 there; merges = λ m. more.0 all },
    λ has. more.1 (has.merges merges),
  )

  -- or are not
  pub all_told : merge ≡ false → (is : Bool) → is ≡ true → IsTrue is ↔ AreCuts flow.heads → IsTrue true ↔ HasCuts flow merge lines
  all_told no_merge is there told = (
    λ all. record { heads = told.0 there; merges = λ m. absurd (let clash : false ≡ true = sym no_merge ∙ m in cc clash) },
    λ has. refl,
  )

-- a program without loops, whose states are not merged, asks for no cuts
pub none_asked : (flow : Flow) (lines : List Line) → flow.heads ≡ [] → HasCuts flow false lines
none_asked flow lines none = record {
  heads = λ k d within. let empty : length flow.heads ≡ 0 = ap length none in absurd (omega (arith, within, empty));
  merges = λ yes. absurd (cc yes);
}

-- ---- certificates

-- what is checked one after the other is what is found
pub all_checked : (flow : Flow) (defs : List Def) (merge : Bool) (lines : List Line) (is : Bool) → ended_by lines ≤ 65536 → HasCuts flow merge lines
    → (is ≡ true) ↔ IsCertificateInPlace flow defs lines → (is ≡ true) ↔ IsFound flow defs merge lines
all_checked flow defs merge lines is few cuts told = (
  λ yes. (let given = told.0 yes in record { valid = given.0; within = few; cuts = cuts; sides = given.1 }),
  λ found. told.1 (found.valid, found.sides),
)

-- ---- chains

-- the stuck branches of a chain are known from its lines
pub one_stuck : JudgesAreThere → ChainsAreRead → (flow : Flow) (defs : List Def) (lines : List Line) (some other : List Path) → IsValid flow defs
    → IsShortChain flow defs lines some → IsShortChain flow defs lines other → some ≡ other
one_stuck there chains flow defs lines some other valid c d = of_own _ c.spelled
  where
    of_own : (own : List Line) → lines ≡ Header One Chain ∷ own → some ≡ other
    of_own own e =
        let j = there flow defs valid in
        let first = (chains j.0 j.1 flow defs own some valid j.2).1 (subst (λ (ls : List Line). IsShortChain flow defs ls some) e c) in
        let second = (chains j.0 j.1 flow defs own other valid j.2).1 (subst (λ (ls : List Line). IsShortChain flow defs ls other) e d) in
        let same : first.last ≡ second.last = same_reading first.last second.last (sym first.read ∙ second.read) in
        sym first.stuck_are ∙ ap (λ (r : Reading). r.stuck) same ∙ second.stuck_are

-- a chain that is found has its report
pub chain_reported : (flow : Flow) (defs : List Def) (merge : Bool) (lines : List Line) (r : ChainReport) → ended_by lines ≤ 65536 → HasCuts flow merge lines
    → (r.count ≡ 0 → ⊥) → IsReportOf flow defs lines r → IsReported flow defs merge lines r
chain_reported flow defs merge lines r few cuts some is = record {
  stuck = is.stuck;
  chain = is.chain;
  within = few;
  cuts = cuts;
  sides = is.sides;
  report = is.text;
  counted = is.counted;
  some = omega (arith, some);
}

-- lines that are no chain are not found
pub no_chain_found : (flow : Flow) (defs : List Def) (merge : Bool) (lines : List Line) → IsNoChain flow defs lines → IsFoundChain flow defs merge lines → ⊥
no_chain_found flow defs merge lines none found = none found.stuck (found.chain, found.sides)

-- nor is a chain without stuck branches
pub no_stuck_found : JudgesAreThere → ChainsAreRead → (flow : Flow) (defs : List Def) (merge : Bool) (lines : List Line) (r : ChainReport) → IsValid flow defs → r.count ≡ 0
    → IsReportOf flow defs lines r → IsFoundChain flow defs merge lines → ⊥
no_stuck_found there chains flow defs merge lines r valid none is found =
    let same : is.stuck ≡ found.stuck = one_stuck there chains flow defs lines is.stuck found.stuck valid is.chain found.chain in
    let own : r.count ≡ length found.stuck = is.counted ∙ ap (λ (bs : List Path). length bs) same in
    let some : 0 < length found.stuck = found.some in
    omega (arith, own, none, some)
