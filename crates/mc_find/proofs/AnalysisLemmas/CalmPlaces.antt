-- The lines of a chain without stuck branches are in their places in the certificate too.
use Rattle.std.proofs.Common.{◌≡◌, ◌++◌, ◌∷◌, ◌∙◌, ◌+◌, ◌≤◌, ℕ, List, [], Bool, true, false, map, refl, sym, ap, subst, arith}
use Rattle.std.specs.Prelude.{Ok, Some, None, if◌then◌else◌}
use Rattle.std.proofs.lemmas.List.{map-append, nil_from_length}
use Rattle.std.specs.List.{AllByRecursion, filter, list_all}
use Rattle.mc_base.specs.declared.ids.PointId.{PointId}
use Rattle.mc_lines.specs.declared.cert.line.Line.{Line}
use Rattle.mc_lines.specs.declared.cert.line.Line.TheVariants.{Header, Cut, Head, Pass, End}
use Rattle.mc_flow.specs.declared.defs.rules.Def.{Def}
use Rattle.mc_flow.specs.declared.graph.Flow.{Flow}
use Rattle.mc_flow.specs.Valid.{IsValid}
use Rattle.mc_state.specs.declared.line.Form.TheVariants.{Certificate, Chain}
use Rattle.mc_state.specs.declared.line.Version.TheVariants.{One}
use Rattle.mc_state.specs.declared.raw_state.RawState.{RawState}
use Rattle.mc_state.specs.Laws.{UnknownIsBounded}
use Rattle.mc_state.specs.Premises.{Judged, have, need, then_give}
use Rattle.mc_kernel.specs.Branches.{Path, entry_path, roots}
use Rattle.mc_kernel.specs.Certificates.{AreHeads, WrittenHead, states_of}
use Rattle.mc_kernel.specs.Instances.{IsInstance, Reads, stuck_by}
use Rattle.mc_kernel.specs.JudgedLaws.{LinesAreJudged}
use Rattle.mc_kernel.specs.Judges.{Knowledge, is_cut, judged_line}
use Rattle.mc_kernel.specs.Readings.{Reading, begun, first_branch, has_all_heads, marked, reading_line, reading_rule, ruled, setting_of}
use Rattle.mc_kernel.specs.Reading.Documents.{IsJudge, IsMade, IsShortChain}
use Rattle.mc_kernel.specs.Reading.Laws.{LinesMakeWellMade}
use Rattle.mc_kernel.proofs.ReadingLemmas.Front.{head_line}
use Rattle.mc_kernel.proofs.ReadingLemmas.Lists.{all_join}
use Rattle.mc_kernel.proofs.ReadingLemmas.Rules.{ruling_at}
use Rattle.mc_document.specs.Places.{AreInPlace, HasPlaces, cuts_of, may_stand}
use Rattle.mc_document.proofs.PlacesLemmas.{one_next}
use Rattle.mc_document.proofs.ProofLemmas.Roots.{roots_made}
use Rattle.mc_follow.specs.Alarms.Outcomes.{IsWhole}
use Rattle.mc_follow.specs.declared.alarms.outcome.Document.{Document}
use Rattle.mc_follow.specs.Alarms.Walks.{ended_by, ending}
use Rattle.mc_find.specs.Analysis.Findings.{IsFound, stays, under_header}
use Rattle.mc_find.proofs.AcceptedLemmas.{none_asked}
use Rattle.mc_find.proofs.AnalysisLemmas.Calm.{certificate, chain, chain_stays, instance_still, is_certificate, none_later, opened}

abbrev in_chain : List Path → List Path → Reading
in_chain bs stuck = ruling_at Chain [] [] bs stuck

abbrev in_certificate : List Path → List Path → Reading
in_certificate bs stuck = ruling_at Certificate [] [] bs stuck

-- what a rule line makes of a document with some branches
abbrev reads_at : Knowledge → Flow → List Def → Line → Reading → Judged Reading
reads_at k flow defs l t =
    have 1 (first_branch t.branches)
    (λ b. then_give (λ next. record t { branches = next ++ b.1; stuck = t.stuck ++ marked l b.0 }) (judged_line k flow defs (setting_of t) l b.0))

module _ (judged : LinesAreJudged) (makes : LinesMakeWellMade) (flow : Flow) (defs : List Def) (valid : IsValid flow defs)
    (k : Knowledge) (well : RawState → Bool) (judge : IsJudge k well flow defs) where
  abbrev InPlace : List Line → Reading → Type 0
  InPlace = AreInPlace k well flow defs

  abbrev AreMade : List Path → Type 0
  AreMade = AllByRecursion (IsMade flow defs)

  -- lines that are in their places in the chain are in the certificate
  abbrev Still : List Line → List Path → Type 0
  Still rest bs = (stuck own : List Path) → InPlace rest (in_chain bs stuck) → InPlace rest (in_certificate (map opened bs) own)

  rule_still : (l : Line) (rest : List Line) (b : Path) (bs next later stuck own : List Path) → stuck_by l b later ≡ [] → AreMade (b ∷ bs)
      → IsInstance flow defs (chain flow defs [] []) l b next → Still rest (next ++ bs)
      → ((new : Reading) → reading_rule k flow defs l (in_chain (b ∷ bs) stuck) ≡ Ok new → InPlace rest new)
      → (new : Reading) → reading_rule k flow defs l (in_certificate (opened b ∷ map opened bs) own) ≡ Ok new → InPlace rest new
  rule_still l rest b bs next later stuck own none made i goes on new read =
      let given : reading_rule k flow defs l (in_chain (b ∷ bs) stuck) ≡ Ok (in_chain (next ++ bs) (stuck ++ marked l b)) =
      ap (then_give (λ (n : List Path). in_chain (n ++ bs) (stuck ++ marked l b))) ((judged k flow defs (chain flow defs [] []) l b (judge.asked b made.0) next).1 i) in
      let come : reading_rule k flow defs l (in_certificate (opened b ∷ map opened bs) own)
      ≡ Ok (in_certificate (map opened next ++ map opened bs) (own ++ marked l (opened b))) =
      ap (then_give (λ (n : List Path). in_certificate (n ++ map opened bs) (own ++ marked l (opened b))))
      ((judged k flow defs (certificate flow defs [] []) l (opened b) (judge.asked (opened b) made.0) (map opened next)).1
      (instance_still flow defs [] [] l b next later none i)) in
      let same : in_certificate (map opened next ++ map opened bs) (own ++ marked l (opened b)) ≡ new =
      one_next (in_certificate (map opened next ++ map opened bs) (own ++ marked l (opened b))) new
      (reading_rule k flow defs l (in_certificate (opened b ∷ map opened bs) own)) come read in
      subst (λ (r : Reading). InPlace rest r)
      (ap (λ (ps : List Path). in_certificate ps (own ++ marked l (opened b))) (map-append opened next bs) ∙ same)
      (goes (stuck ++ marked l b) (own ++ marked l (opened b)) (on (in_chain (next ++ bs) (stuck ++ marked l b)) given))

  line_still : (l : Line) (rest : List Line) (b : Path) (bs next later : List Path) → stuck_by l b later ≡ [] → AreMade (b ∷ bs)
      → IsInstance flow defs (chain flow defs [] []) l b next → Still rest (next ++ bs) → Still (l ∷ rest) (b ∷ bs)
  line_still (Header version form) rest b bs next later none made i goes stuck own placed = absurd i
  line_still (Cut p) rest b bs next later none made i goes stuck own placed = absurd i
  line_still (Head p raw) rest b bs next later none made i goes stuck own placed = absurd i
  line_still Pass rest b bs next later none made i goes stuck own placed = absurd i
  line_still End rest b bs next later none made i goes stuck own placed = absurd i
  line_still l rest b bs next later none made i goes stuck own placed =
      (placed.0, rule_still l rest b bs next later stuck own none made i goes placed.1)

  all_still : (rules : List Line) (bs more : List Path) → more ≡ [] → AreMade bs → Reads flow defs (chain flow defs [] []) rules bs more
      → Still (rules ++ End ∷ []) bs
  all_still [] bs more none made (closed, e) stuck own placed =
      (subst (λ (cs : List Path). may_stand End (map opened cs) ≡ true) (sym closed) refl, λ next read. tt)
  all_still (l ∷ rules) [] more none made r stuck own placed = absurd r
  all_still (l ∷ rules) (b ∷ bs) more none made (next, later, i, rest, marks) stuck own placed =
      let none_here : stuck_by l b later ≡ [] = sym marks ∙ none in
      let none_then : later ≡ [] = none_later flow defs [] [] l b later none_here in
      let next_made : AreMade (next ++ bs) = all_join (IsMade flow defs) next bs (makes flow defs (chain flow defs [] []) l b next valid made.0 i) made.1 in
      line_still l (rules ++ End ∷ []) b bs next later none_here made i (all_still rules (next ++ bs) later none_then next_made rest) stuck own placed

  -- ---- the first line

  first_still : (l : Line) (rest : List Line) (b : Path) (next : List Path) → has_all_heads flow [] ≡ true → IsInstance flow defs (chain flow defs [] []) l b next
      → InPlace (l ∷ rest) (in_certificate (roots flow []) []) → InPlace (l ∷ rest) (begun Certificate)
  first_still (Header version form) rest b next full i placed = absurd i
  first_still (Cut p) rest b next full i placed = absurd i
  first_still (Head p raw) rest b next full i placed = absurd i
  first_still Pass rest b next full i placed = absurd i
  first_still End rest b next full i placed = absurd i
  first_still l rest b next full i placed = (refl, λ new read. placed.1 new (sym same ∙ read))
    where
      same : reading_rule k flow defs l (begun Certificate) ≡ reading_rule k flow defs l (in_certificate (roots flow []) [])
      same = ap (λ (all : Bool). have 1 (if all then Some (ruled (begun Certificate) (roots flow [])) else None) (reads_at k flow defs l)) full

  begun_still : (rules : List Line) → has_all_heads flow [] ≡ true → Reads flow defs (chain flow defs [] []) rules (roots flow []) []
      → InPlace (rules ++ End ∷ []) (in_certificate (roots flow []) []) → InPlace (rules ++ End ∷ []) (begun Certificate)
  begun_still [] full (closed, e) placed = absurd (cc closed)
  begun_still (l ∷ rules) full (next, later, i, rest, marks) placed = first_still l (rules ++ End ∷ []) (entry_path flow) next full i placed

  pub all_placed : (rules : List Line) → flow.heads ≡ [] → AreMade (roots flow []) → Reads flow defs (chain flow defs [] []) rules (roots flow []) []
      → InPlace (Pass ∷ (rules ++ End ∷ [])) (begun Chain) → InPlace (rules ++ End ∷ []) (begun Certificate)
  all_placed rules no_loops made reads placed =
      let full : has_all_heads flow [] ≡ true = ap (λ (heads : List PointId). list_all (is_cut []) heads) no_loops in
      let passed : reading_line k well flow defs Pass (begun Chain) ≡ Ok (in_chain (roots flow []) []) =
      ap (λ (all : Bool). need 1 all (Ok (in_chain (roots flow []) []))) full in
      begun_still rules full reads (all_still rules (roots flow []) [] refl made reads [] [] (placed.1 (in_chain (roots flow []) []) passed))

-- ---- how many branches are ended, and cuts

ended_kept : (lines : List Line) → ended_by (filter stays lines) ≡ ended_by lines
ended_kept [] = refl
ended_kept (Header version form ∷ lines) = let rest : ended_by (filter stays lines) ≡ ended_by lines = ended_kept lines in omega (arith, rest)
ended_kept (Pass ∷ lines) = let rest : ended_by (filter stays lines) ≡ ended_by lines = ended_kept lines in omega (arith, rest)
ended_kept (l ∷ lines) = ap (λ (n : ℕ). ending l + n) (ended_kept lines)

-- a chain without cut lines has no cuts
no_cuts : (cuts : List PointId) (more : List Line) → cuts_of (map Cut cuts ++ more) ≡ [] → cuts ≡ []
no_cuts [] more e = refl
no_cuts (p ∷ cuts) more e = absurd (cc e)

-- and then no heads
no_heads : (flow : Flow) (defs : List Def) (heads : List WrittenHead) → AreHeads flow defs [] heads → heads ≡ []
no_heads flow defs [] are = refl
no_heads flow defs (h ∷ heads) are = let less = are.0.0.1 in absurd (omega (arith, less))

same_behind : (own lines : List Line) → ◌≡◌ {A = List Line} (Header One Chain ∷ lines) (Header One Chain ∷ own) → own ≡ lines
same_behind own lines e = cc e

-- ---- the certificate

record IsUncut (flow : Flow) (defs : List Def) (lines : List Line) : Type 0 where
  pub rules : List Line
  pub reads : Reads flow defs (chain flow defs [] []) rules (roots flow []) []
  pub spelled : lines ≡ Header One Chain ∷ (Pass ∷ (rules ++ End ∷ []))
  pub kept : filter stays lines ≡ rules ++ End ∷ []

uncut : (flow : Flow) (defs : List Def) (lines : List Line) → flow.heads ≡ [] → IsShortChain flow defs lines [] → cuts_of lines ≡ flow.heads
    → IsUncut flow defs lines
uncut flow defs lines no_loops c cuts = of_cuts c.cuts c.heads none c.heads_are c.spelled c.pass.reads
  where
    none : c.cuts ≡ []
    none = no_cuts c.cuts (map head_line c.heads ++ (Pass ∷ (c.rules ++ End ∷ []))) (sym (ap cuts_of c.spelled) ∙ cuts ∙ no_loops)

    of_heads : (heads : List WrittenHead) → heads ≡ [] → lines ≡ Header One Chain ∷ (map head_line heads ++ (Pass ∷ (c.rules ++ End ∷ [])))
        → Reads flow defs (chain flow defs [] (states_of heads)) c.rules (roots flow (states_of heads)) [] → IsUncut flow defs lines
    of_heads (h ∷ heads) e spelled reads = absurd (cc e)
    of_heads [] e spelled reads = record {
      rules = c.rules;
      reads = reads;
      spelled = spelled;
      kept = ap (λ (ls : List Line). filter stays ls) spelled ∙ chain_stays flow defs (chain flow defs [] []) [] [] c.rules (roots flow []) [] reads;
    }

    of_cuts : (cuts : List PointId) (heads : List WrittenHead) → cuts ≡ [] → AreHeads flow defs cuts heads
        → lines ≡ Header One Chain ∷ (map Cut cuts ++ (map head_line heads ++ (Pass ∷ (c.rules ++ End ∷ []))))
        → Reads flow defs (chain flow defs cuts (states_of heads)) c.rules (roots flow (states_of heads)) [] → IsUncut flow defs lines
    of_cuts (p ∷ cuts) heads e are spelled reads = absurd (cc e)
    of_cuts [] heads e are spelled reads = of_heads heads (no_heads flow defs heads are) spelled reads

-- the lines of a chain without stuck branches, under the header of a certificate, are found
pub calm_is_found : LinesAreJudged → LinesMakeWellMade → UnknownIsBounded → (flow : Flow) (defs : List Def) (lines : List Line) → IsValid flow defs
    → flow.heads ≡ [] → IsShortChain flow defs lines [] → ended_by lines ≤ 65536 → HasPlaces flow defs Chain lines → IsFound flow defs false (under_header lines)
calm_is_found judged makes unknown flow defs lines valid no_loops c few places =
    let u = uncut flow defs lines no_loops c places.cuts in
    let same : ended_by (filter stays lines) ≡ ended_by lines = ended_kept lines in
    let behind : places.sides.behind ≡ Pass ∷ (u.rules ++ End ∷ []) =
    same_behind places.sides.behind (Pass ∷ (u.rules ++ End ∷ [])) (sym u.spelled ∙ places.sides.spelled) in
    record {
      valid = is_certificate flow defs lines c;
      within = omega (arith, few, same);
      cuts = none_asked flow (under_header lines) no_loops;
      sides = record {
        behind = filter stays lines;
        spelled = refl;
        in_place = λ k well judge.
            subst (λ (ls : List Line). AreInPlace k well flow defs ls (begun Certificate)) (sym u.kept)
            (all_placed judged makes flow defs valid k well judge u.rules no_loops (roots_made unknown flow defs [] tt) u.reads
            (subst (λ (ls : List Line). AreInPlace k well flow defs ls (begun Chain)) behind (places.sides.in_place k well judge)));
      };
    }

-- such lines as they are written, of a chain in which every branch is followed
pub calm_written : LinesAreJudged → LinesMakeWellMade → UnknownIsBounded → (flow : Flow) (defs : List Def) (d : Document) (written : List Line) → IsValid flow defs
    → flow.heads ≡ [] → IsWhole flow defs d → d.count ≡ 0 → written ≡ under_header d.lines.items → IsFound flow defs false written
calm_written judged makes unknown flow defs d written valid no_loops whole none same =
    let calm : whole.stuck ≡ [] = nil_from_length whole.stuck (sym whole.counted ∙ none) in
    let chain : IsShortChain flow defs d.lines.items [] = subst (λ (stuck : List Path). IsShortChain flow defs d.lines.items stuck) calm whole.chain in
    subst (λ (ls : List Line). IsFound flow defs false ls) (sym same) (calm_is_found judged makes unknown flow defs d.lines.items valid no_loops chain whole.within whole.places)
