-- Whole documents, read to their ends.
use Rattle.std.proofs.Common.{◌≡◌, ℕ, suc, List, [], ◌∷◌, ◌++◌, Bool, true, false, map, refl, ap, sym, subst, ◌∙◌}
use Rattle.std.specs.Prelude.{Result, Ok, Contains}
use Rattle.std.specs.List.{AllByRecursion}
use Rattle.mc_base.specs.declared.ids.PointId.{PointId}
use Rattle.mc_lines.specs.declared.cert.line.Line.{Line}
use Rattle.mc_lines.specs.declared.cert.line.Line.TheVariants as line
use Rattle.mc_flow.specs.declared.defs.rules.Def.{Def}
use Rattle.mc_flow.specs.declared.graph.Flow.{Flow}
use Rattle.mc_flow.specs.Valid.{IsValid}
use Rattle.mc_state.specs.Premises.{need}
use Rattle.mc_state.specs.declared.line.Form.{Form}
use Rattle.mc_state.specs.declared.line.Form.TheVariants.{Certificate, Chain}
use Rattle.mc_state.specs.declared.line.Version.TheVariants.{One}
use Rattle.mc_state.specs.declared.raw_state.RawState.{RawState}
use Rattle.mc_state.specs.RawStates.{IsWellFormedRaw}
use Rattle.mc_kernel.specs.Branches.{Path, AreCuts, Ascend, roots, begins, Head}
use Rattle.mc_kernel.specs.Certificates.{WrittenHead, AreHeads, AreOrdered, IsValidCertificate, states_of}
use Rattle.mc_kernel.specs.Instances.{IsInstance, Reads, stuck_by}
use Rattle.mc_kernel.specs.Judges.{Knowledge}
use Rattle.mc_kernel.specs.Readings.{Reading, cutting, heading, finished, behind, begun, has_all_heads, reading_lines}
use Rattle.mc_kernel.specs.Reading.Documents.{IsMade, IsJudge, Ends, IsShortChain}
use Rattle.mc_kernel.specs.Reading.Laws.{CertificatesAreRead, ChainsAreRead, CertificatesStickNowhere}
use Rattle.mc_kernel.proofs.Induction.{heads_bounded}
use Rattle.mc_kernel.proofs.ReadingLemmas.Lists.{heads_from_full, full_from_heads, each_contained, all_contained}
use Rattle.mc_kernel.proofs.ReadingLemmas.Made.{entry_made}
use Rattle.mc_kernel.proofs.ReadingLemmas.Rules.{Right, RulesOf, ended_at, same_reading, rules_from, rules_to, ruling_at}
use Rattle.mc_kernel.proofs.ReadingLemmas.Front.{HeadFits, IsPoint, cuts_from, cuts_to, cutting_at, from_cuts, from_heads, full_of, head_line, heading_at, heads_from, heads_to, rooted_at, starts_cut, starts_head}

-- a reading that is at another stage has not ended
cutting_still : (form : Form) (cuts : List PointId) (last : Reading) → ◌≡◌ {A = Result Reading (ℕ × ℕ)} (Ok (cutting_at form cuts)) (Ok last) → last.stage ≡ finished → ⊥
cutting_still form cuts last e f = let stage : cutting ≡ finished = ap (λ (r : Reading). r.stage) (same_reading (cutting_at form cuts) last e) ∙ f in cc stage

heading_still : (form : Form) (cuts : List PointId) (heads : List WrittenHead) (last : Reading) → ◌≡◌ {A = Result Reading (ℕ × ℕ)} (Ok (heading_at form cuts heads)) (Ok last) → last.stage ≡ finished → ⊥
heading_still form cuts heads last e f = let stage : heading ≡ finished = ap (λ (r : Reading). r.stage) (same_reading (heading_at form cuts heads) last e) ∙ f in cc stage

-- how the lines of a document are spelled
spelled : (lines rest ending behind_heads : List Line) (cuts some : List PointId) (heads more : List WrittenHead)
    → lines ≡ map line.Cut some ++ rest → cuts ≡ some → rest ≡ map head_line more ++ ending → heads ≡ more → ending ≡ behind_heads
    → lines ≡ map line.Cut cuts ++ (map head_line heads ++ behind_heads)
spelled lines rest ending behind_heads cuts some heads more a b c d e = cc (a, b, c, d, e)

-- a certificate has no stuck branch
pub never_stuck : (flow : Flow) (defs : List Def) (cuts : List PointId) (heads : List Head) (rules : List Line) (bs stuck : List Path)
    → Reads flow defs (record { form = Certificate; cuts = cuts; heads = heads }) rules bs stuck → stuck ≡ []
never_stuck flow defs cuts heads [] bs stuck r = r.1
never_stuck flow defs cuts heads (l ∷ rules) [] stuck r = absurd r
never_stuck flow defs cuts heads (l ∷ rules) (b ∷ bs) stuck (next, later, i, reads, e) =
    e ∙ at l i (never_stuck flow defs cuts heads rules (next ++ bs) later reads)
  where
    at : (l : Line) → IsInstance flow defs (record { form = Certificate; cuts = cuts; heads = heads }) l b next → later ≡ [] → stuck_by l b later ≡ []
    at line.C1 i none = let chain : Certificate ≡ Chain = i.chain in absurd (cc chain)
    at l i none = none

module _ (right : Right) (k : Knowledge) (well : RawState → Bool) (flow : Flow) (defs : List Def) (valid : IsValid flow defs) (judge : IsJudge k well flow defs) where
  abbrev lines_at : ℕ → List Line → Reading → Result Reading (ℕ × ℕ)
  lines_at = reading_lines k well flow defs

  cuts_are : (cuts : List PointId) (c : (p : PointId) → Contains flow.heads p → Contains cuts p) → Ascend cuts → AllByRecursion (IsPoint k well flow defs judge) cuts → AreCuts flow cuts
  cuts_are cuts c ascend skips = record { ascend = ascend; skips = each_contained (IsPoint k well flow defs judge) cuts skips; all_heads = c }

  heads_made : (heads : List WrittenHead) → AllByRecursion (λ (h : WrittenHead). IsWellFormedRaw defs flow.vars flow.structs.list h.1) heads
      → AllByRecursion (IsMade flow defs) (map (λ (h : Head). begins h.0 h.1) (states_of heads))
  heads_made [] a = tt
  heads_made (h ∷ heads) a = (a.0.made, heads_made heads a.1)

  only_formed : (cuts : List PointId) (heads : List WrittenHead) → AllByRecursion (HeadFits k well flow defs judge cuts) heads
      → AllByRecursion (λ (h : WrittenHead). IsWellFormedRaw defs flow.vars flow.structs.list h.1) heads
  only_formed cuts [] a = tt
  only_formed cuts (h ∷ heads) a = (a.0.1, only_formed cuts heads a.1)

  only_placed : (cuts : List PointId) (heads : List WrittenHead) → AllByRecursion (HeadFits k well flow defs judge cuts) heads
      → AllByRecursion (λ (h : Head). Contains cuts h.0) (states_of heads)
  only_placed cuts [] a = tt
  only_placed cuts (h ∷ heads) a = (a.0.0, only_placed cuts heads a.1)

  pub roots_made : (heads : List WrittenHead) → AllByRecursion (λ (h : WrittenHead). IsWellFormedRaw defs flow.vars flow.structs.list h.1) heads
      → AllByRecursion (IsMade flow defs) (roots flow (states_of heads))
  roots_made heads a = (entry_made right.makes flow defs, heads_made heads a)

  -- ---- cuts and heads

  -- after the cuts
  rest_from : (form : Form) (cuts : List PointId) (n : ℕ) (lines : List Line) (last : Reading) → starts_cut lines ≡ false → lines_at n lines (cutting_at form cuts) ≡ Ok last → last.stage ≡ finished
      → (has_all_heads flow cuts ≡ true) × (lines_at n lines (heading_at form cuts []) ≡ Ok last)
  rest_from form cuts n [] last starts e f = absurd (cutting_still form cuts last e f)
  rest_from form cuts n (l ∷ lines) last starts e f =
      let full = full_of k well flow defs judge form cuts n lines l last starts e in
      (full, sym (from_cuts k well flow defs judge form cuts n lines l full starts) ∙ e)

  -- lines that end with others are some
  ends_some : (ls ending : List Line) → (ending ≡ [] → ⊥) → ls ++ ending ≡ [] → ⊥
  ends_some [] ending some e = some e
  ends_some (l ∷ ls) ending some e = cc e

  no_cut : (heads : List WrittenHead) (rest : List Line) → starts_cut rest ≡ false → starts_cut (map head_line heads ++ rest) ≡ false
  no_cut [] rest e = e
  no_cut (h ∷ heads) rest e = refl

  past_cuts : (form : Form) (cuts : List PointId) (n : ℕ) (lines : List Line) → has_all_heads flow cuts ≡ true → starts_cut lines ≡ false → (lines ≡ [] → ⊥)
      → lines_at n lines (cutting_at form cuts) ≡ lines_at n lines (heading_at form cuts [])
  past_cuts form cuts n [] full starts some = absurd (some refl)
  past_cuts form cuts n (l ∷ lines) full starts some = from_cuts k well flow defs judge form cuts n lines l full starts

  -- cuts and heads are read, up to what is after them
  front_to : (form : Form) (cuts : List PointId) (heads : List WrittenHead) (ending : List Line) → AreCuts flow cuts → AreOrdered heads → AreHeads flow defs cuts heads
      → starts_cut ending ≡ false → (ending ≡ [] → ⊥)
      → (m : ℕ) × (lines_at 2 (map line.Cut cuts ++ (map head_line heads ++ ending)) (begun form) ≡ lines_at m ending (heading_at form cuts heads))
  front_to form cuts heads ending are ordered fit starts some =
      let behind_cuts : List Line = map head_line heads ++ ending in
      let c = cuts_to k well flow defs judge form 2 [] cuts behind_cuts are.ascend (all_contained (IsPoint k well flow defs judge) cuts are.skips) in
      let d = past_cuts form cuts c.0 behind_cuts (full_from_heads flow cuts are.all_heads) (no_cut heads ending starts) (ends_some (map head_line heads) ending some) in
      let h = heads_to k well flow defs judge form cuts c.0 [] heads ending ordered fit in
      (h.0, c.1 ∙ d ∙ h.1)

  -- ---- certificates

  -- after the heads
  roots_from : (cuts : List PointId) (heads : List WrittenHead) (n : ℕ) (lines : List Line) (last : Reading) → has_all_heads flow cuts ≡ true
      → AllByRecursion (IsMade flow defs) (roots flow (states_of heads)) → starts_head lines ≡ false
      → lines_at n lines (heading_at Certificate cuts heads) ≡ Ok last → last.stage ≡ finished
      → RulesOf right k well flow defs valid judge Certificate cuts heads lines (roots flow (states_of heads)) [] last
  roots_from cuts heads n [] last full made starts e f = absurd (heading_still Certificate cuts heads last e f)
  roots_from cuts heads n (l ∷ lines) last full made starts e f =
      rules_from right k well flow defs valid judge Certificate cuts heads n (l ∷ lines) (roots flow (states_of heads)) [] last made
      (sym (from_heads k well flow defs judge cuts heads n lines l full starts) ∙ e) f

  certificate_from : (lines : List Line) (stuck : List Path) → Ends k well flow defs Certificate lines stuck
      → (v : IsValidCertificate flow defs (line.Header One Certificate ∷ lines)) × (stuck ≡ [])
  certificate_from lines stuck ends =
      let c = cuts_from k well flow defs judge Certificate 2 lines [] ends.last tt tt ends.read in
      let front = rest_from Certificate c.all c.number c.rest ends.last c.starts c.read ends.ended in
      let h = heads_from k well flow defs judge Certificate c.all c.number c.rest [] ends.last tt tt front.1 in
      let r = roots_from c.all h.all h.number h.rest ends.last front.0 (roots_made h.all (only_formed c.all h.all h.fit)) h.starts h.read ends.ended in
      let none : r.more ≡ [] = never_stuck flow defs c.all (states_of h.all) r.rules (roots flow (states_of h.all)) r.more r.reads in
      let written = spelled lines c.rest h.rest (r.rules ++ line.End ∷ []) c.all c.more h.all h.more c.spelled c.all_are h.spelled h.all_are r.spelled in (
        record {
          cuts = c.all;
          heads = h.all;
          rules = r.rules;
          spelled = ap (λ (ls : List Line). line.Header One Certificate ∷ ls) written;
          cuts_are = cuts_are c.all (heads_from_full flow c.all front.0) c.ascend c.skips;
          ordered = h.ordered;
          heads_are = h.fit;
          reads = subst (λ (ps : List Path). Reads flow defs (record { form = Certificate; cuts = c.all; heads = states_of h.all }) r.rules (roots flow (states_of h.all)) ps) none r.reads;
        },
        sym ends.stuck_are ∙ ap (λ (t : Reading). t.stuck) r.ends ∙ none,
      )

  -- ---- and back

  -- rule lines and the end begin with neither a cut nor a head
  no_front : (cuts : List PointId) (heads : List WrittenHead) (rules : List Line) (bs stuck : List Path)
      → Reads flow defs (record { form = Certificate; cuts = cuts; heads = states_of heads }) rules bs stuck
      → (starts_cut (rules ++ line.End ∷ []) ≡ false) × (starts_head (rules ++ line.End ∷ []) ≡ false)
  no_front cuts heads [] bs stuck r = (refl, refl)
  no_front cuts heads (l ∷ rules) [] stuck r = absurd r
  no_front cuts heads (l ∷ rules) (b ∷ bs) stuck r = at l r
    where
      at : (l : Line) → Reads flow defs (record { form = Certificate; cuts = cuts; heads = states_of heads }) (l ∷ rules) (b ∷ bs) stuck
          → (starts_cut (l ∷ (rules ++ line.End ∷ [])) ≡ false) × (starts_head (l ∷ (rules ++ line.End ∷ [])) ≡ false)
      at (line.Cut p) r = absurd r.2
      at (line.Head p raw) r = absurd r.2
      at l r = (refl, refl)

  past_heads : (cuts : List PointId) (heads : List WrittenHead) (n : ℕ) (lines : List Line) → has_all_heads flow cuts ≡ true → starts_head lines ≡ false → (lines ≡ [] → ⊥)
      → lines_at n lines (heading_at Certificate cuts heads) ≡ lines_at n lines (rooted_at k well flow defs judge cuts heads)
  past_heads cuts heads n [] full starts some = absurd (some refl)
  past_heads cuts heads n (l ∷ lines) full starts some = from_heads k well flow defs judge cuts heads n lines l full starts

  certificate_to : (lines : List Line) → IsValidCertificate flow defs (line.Header One Certificate ∷ lines) → Ends k well flow defs Certificate lines []
  certificate_to lines v =
      let ending : List Line = v.rules ++ line.End ∷ [] in
      let written : lines ≡ map line.Cut v.cuts ++ (map head_line v.heads ++ (v.rules ++ line.End ∷ [])) = cc v.spelled in
      let front = no_front v.cuts v.heads v.rules (roots flow (states_of v.heads)) [] v.reads in
      let some = ends_some v.rules (line.End ∷ []) (λ e. cc e) in
      let h = front_to Certificate v.cuts v.heads ending v.cuts_are v.ordered v.heads_are front.0 some in
      let t = past_heads v.cuts v.heads h.0 ending (full_from_heads flow v.cuts v.cuts_are.all_heads) front.1 some in
      let r = rules_to right k well flow defs valid judge Certificate v.cuts v.heads h.0 v.rules (roots flow (states_of v.heads)) [] []
      (roots_made v.heads (only_formed v.cuts v.heads v.heads_are)) v.reads in
      record {
        last = ended_at Certificate v.cuts v.heads [];
        read = ap (λ (ls : List Line). lines_at 2 ls (begun Certificate)) written ∙ h.1 ∙ t ∙ r;
        ended = refl;
        stuck_are = refl;
      }

  -- ---- chains of one pass

  -- a pass opens the entry and the heads
  pass_opens : (cuts : List PointId) (heads : List WrittenHead) (n : ℕ) (lines : List Line) → has_all_heads flow cuts ≡ true
      → lines_at n (line.Pass ∷ lines) (heading_at Chain cuts heads) ≡ lines_at (suc n) lines (ruling_at Chain cuts heads (roots flow (states_of heads)) [])
  pass_opens cuts heads n lines full =
      ap (λ (b : Bool). behind n (need 1 b (Ok (ruling_at Chain cuts heads (roots flow (states_of heads)) []))) (lines_at (suc n) lines)) full

  -- what a chain has after its heads
  record PassOf (cuts : List PointId) (heads : List WrittenHead) (n : ℕ) (lines : List Line) (last : Reading) : Type 0 where
    pub rest : List Line
    pub spelled : lines ≡ line.Pass ∷ rest
    pub read : lines_at (suc n) rest (ruling_at Chain cuts heads (roots flow (states_of heads)) []) ≡ Ok last

  pass_from : (cuts : List PointId) (heads : List WrittenHead) (n : ℕ) (lines : List Line) (last : Reading) → has_all_heads flow cuts ≡ true → starts_head lines ≡ false
      → lines_at n lines (heading_at Chain cuts heads) ≡ Ok last → last.stage ≡ finished → PassOf cuts heads n lines last
  pass_from cuts heads n [] last full starts e f = absurd (heading_still Chain cuts heads last e f)
  pass_from cuts heads n (line.Header version form ∷ lines) last full starts e f = absurd (cc e)
  pass_from cuts heads n (line.Cut p ∷ lines) last full starts e f = absurd (cc e)
  pass_from cuts heads n (line.Head p raw ∷ lines) last full starts e f = absurd (cc starts)
  pass_from cuts heads n (line.Pass ∷ lines) last full starts e f = record { rest = lines; spelled = refl; read = sym (pass_opens cuts heads n lines full) ∙ e }
  pass_from cuts heads n (line.End ∷ lines) last full starts e f = absurd (cc e)
  pass_from cuts heads n (l ∷ lines) last full starts e f = absurd (cc e)

  chain_from : (lines : List Line) (stuck : List Path) → Ends k well flow defs Chain lines stuck → IsShortChain flow defs (line.Header One Chain ∷ lines) stuck
  chain_from lines stuck ends =
      let c = cuts_from k well flow defs judge Chain 2 lines [] ends.last tt tt ends.read in
      let front = rest_from Chain c.all c.number c.rest ends.last c.starts c.read ends.ended in
      let h = heads_from k well flow defs judge Chain c.all c.number c.rest [] ends.last tt tt front.1 in
      let p = pass_from c.all h.all h.number h.rest ends.last front.0 h.starts h.read ends.ended in
      let r = rules_from right k well flow defs valid judge Chain c.all h.all (suc h.number) p.rest (roots flow (states_of h.all)) [] ends.last
      (roots_made h.all (only_formed c.all h.all h.fit)) p.read ends.ended in
      let same : r.more ≡ stuck = sym (ap (λ (t : Reading). t.stuck) r.ends) ∙ ends.stuck_are in
      let written = spelled lines c.rest h.rest (line.Pass ∷ (r.rules ++ line.End ∷ [])) c.all c.more h.all h.more c.spelled c.all_are h.spelled h.all_are
      (p.spelled ∙ ap (λ (ls : List Line). line.Pass ∷ ls) r.spelled) in
      record {
        cuts = c.all;
        heads = h.all;
        rules = r.rules;
        spelled = ap (λ (ls : List Line). line.Header One Chain ∷ ls) written;
        ordered = h.ordered;
        heads_are = h.fit;
        pass = record {
          cuts_are = cuts_are c.all (heads_from_full flow c.all front.0) c.ascend c.skips;
          at_cuts = only_placed c.all h.all h.fit;
          bounded = heads_bounded flow defs c.all h.all h.fit;
          reads = subst (λ (ps : List Path). Reads flow defs (record { form = Chain; cuts = c.all; heads = states_of h.all }) r.rules (roots flow (states_of h.all)) ps) same r.reads;
        };
      }

  chain_to : (lines : List Line) (stuck : List Path) → IsShortChain flow defs (line.Header One Chain ∷ lines) stuck → Ends k well flow defs Chain lines stuck
  chain_to lines stuck v =
      let ending : List Line = v.rules ++ line.End ∷ [] in
      let written : lines ≡ map line.Cut v.cuts ++ (map head_line v.heads ++ (line.Pass ∷ (v.rules ++ line.End ∷ []))) = cc v.spelled in
      let h = front_to Chain v.cuts v.heads (line.Pass ∷ ending) v.pass.cuts_are v.ordered v.heads_are refl (λ e. cc e) in
      let p = pass_opens v.cuts v.heads h.0 ending (full_from_heads flow v.cuts v.pass.cuts_are.all_heads) in
      let r = rules_to right k well flow defs valid judge Chain v.cuts v.heads (suc h.0) v.rules (roots flow (states_of v.heads)) [] stuck
      (roots_made v.heads (only_formed v.cuts v.heads v.heads_are)) v.pass.reads in
      record {
        last = ended_at Chain v.cuts v.heads stuck;
        read = ap (λ (ls : List Line). lines_at 2 ls (begun Chain)) written ∙ h.1 ∙ p ∙ r;
        ended = refl;
        stuck_are = refl;
      }

pub certificates_are_read : Right → CertificatesAreRead
certificates_are_read right k well flow defs lines valid judge =
    (λ ends. (certificate_from right k well flow defs valid judge lines [] ends).0, certificate_to right k well flow defs valid judge lines)

pub certificates_stick_nowhere : Right → CertificatesStickNowhere
certificates_stick_nowhere right k well flow defs lines stuck valid judge ends = (certificate_from right k well flow defs valid judge lines stuck ends).1

pub chains_are_read : Right → ChainsAreRead
chains_are_read right k well flow defs lines stuck valid judge = (chain_from right k well flow defs valid judge lines stuck, chain_to right k well flow defs valid judge lines stuck)
