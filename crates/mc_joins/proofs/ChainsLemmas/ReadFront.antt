-- Cuts and heads of chains, read in front of their passes.
use Rattle.std.proofs.Common.{◌≡◌, ℕ, suc, List, [], ◌∷◌, ◌++◌, true, false, Option, Some, map, refl, ap, sym, subst, ◌∙◌}
use Rattle.std.specs.Prelude.{◌↔◌, Result, Ok, Contains, ◌&&◌}
use Rattle.std.specs.List.{AllByRecursion}
use Rattle.mc_base.specs.declared.ids.PointId.{PointId}
use Rattle.mc_lines.specs.declared.cert.line.Line.{Line}
use Rattle.mc_lines.specs.declared.cert.line.Line.TheVariants as line
use Rattle.mc_flow.specs.declared.defs.rules.Def.{Def}
use Rattle.mc_flow.specs.declared.graph.Flow.{Flow}
use Rattle.mc_flow.specs.declared.instr.Instr.{Instr}
use Rattle.mc_flow.specs.declared.instr.Instr.TheVariants as instr
use Rattle.mc_flow.specs.Valid.{IsSkip}
use Rattle.mc_state.specs.Premises.{Judged, need}
use Rattle.mc_state.proofs.Numbered.{need_ok, need_yes}
use Rattle.mc_state.proofs.Tests.{and_both, and_yes}
use Rattle.mc_state.specs.declared.raw_state.RawState.{RawState}
use Rattle.mc_state.specs.RawStates.{IsWellFormedRaw, state_of}
use Rattle.mc_rules_steps.specs.Operands.{code_at}
use Rattle.mc_kernel.specs.Branches.{Ascend, Head, roots}
use Rattle.mc_kernel.specs.Certificates.{AreHeads, AreOrdered, WrittenHead, states_of}
use Rattle.mc_kernel.specs.Judges.{is_cut}
use Rattle.mc_kernel.specs.Readings.{comes_after, has_all_heads, is_skip, stands_after}
use Rattle.mc_kernel.proofs.ReadingLemmas.Front.{head_line}
use Rattle.mc_kernel.proofs.ReadingLemmas.Lists.{all_end, append_none, append_end, ascend_end, ascend_after, ordered_end, ordered_after, cut_from, cut_to}
use Rattle.mc_joins.specs.Chains.InOrder.{behind}
use Rattle.mc_joins.specs.Chains.Judges.{Lore, Reading, cutting, finished, heading, reading_cut, reading_head, reading_lines, reading_pass, stands_behind}
use Rattle.mc_joins.proofs.ChainsLemmas.InOrder.{behind_ok, behind_yes, same_reading}
use Rattle.mc_joins.proofs.ChainsLemmas.ReadPasses.{passing_at}

-- a chain of which only cuts are read
abbrev pub cutting_at : List PointId → Reading
cutting_at cuts = record { stage = cutting; cuts = cuts; heads = []; round = 0; branches = []; stuck = []; changed = false }

-- and one of which cuts and heads are read
abbrev pub heading_at : List PointId → List WrittenHead → Reading
heading_at cuts written = record { stage = heading; cuts = cuts; heads = states_of written; round = 0; branches = []; stuck = []; changed = false }

-- and one whose first pass has begun
abbrev pub opened_at : Flow → List PointId → List WrittenHead → Reading
opened_at flow cuts written = passing_at cuts (states_of written) 1 (roots flow (states_of written)) [] false

-- the states of heads stand where the heads do
pub same_place : (written : List WrittenHead) (p : PointId) → stands_behind (states_of written) p ≡ stands_after written p
same_place [] p = refl
same_place (h ∷ []) p = refl
same_place (h ∷ i ∷ written) p = same_place (i ∷ written) p

pub states_end : (written : List WrittenHead) (h : WrittenHead) → states_of written ++ (h.0, state_of h.1) ∷ [] ≡ states_of (written ++ h ∷ [])
states_end [] h = refl
states_end (i ∷ written) h = ap (λ (hs : List Head). (i.0, state_of i.1) ∷ hs) (states_end written h)

-- a Skip point
abbrev pub IsPoint : Flow → PointId → Type 0
IsPoint flow p = IsSkip flow.points p

skip_from : (o : Option Instr) → is_skip o ≡ true → (q : PointId) × (o ≡ Some (instr.Skip q))
skip_from (Some (instr.Skip q)) e = (q, refl)
skip_from other e = absurd (cc e)

module _ (k : Lore) (flow : Flow) (defs : List Def)
    (formed : (raw : RawState) → (k.formed raw ≡ true) ↔ IsWellFormedRaw defs flow.vars flow.structs.list raw) where
  abbrev lines_at : ℕ → List Line → Reading → Result Reading (ℕ × ℕ)
  lines_at = reading_lines k flow defs

  -- ---- lines

  cut_ok : (cuts : List PointId) (p : PointId) (r : Reading) → reading_cut flow p (cutting_at cuts) ≡ Ok r
      → IsPoint flow p × (comes_after cuts p ≡ true) × (cutting_at (cuts ++ p ∷ []) ≡ r)
  cut_ok cuts p r e =
      let three = need_ok 3 (is_skip (code_at flow p)) _ r e in
      let four = need_ok 4 (comes_after cuts p) _ r three.1 in
      let skip = skip_from (code_at flow p) three.0 in
      (record { next = skip.0; skips = skip.1 }, four.0, cc four.1)

  cut_yes : (cuts : List PointId) (p : PointId) → IsPoint flow p → comes_after cuts p ≡ true
      → reading_cut flow p (cutting_at cuts) ≡ Ok (cutting_at (cuts ++ p ∷ []))
  cut_yes cuts p is after = need_yes 3 (is_skip (code_at flow p)) _ (ap is_skip is.skips) ∙ need_yes 4 (comes_after cuts p) _ after

  -- a head at a cut with a well-formed state
  abbrev HeadFits : List PointId → WrittenHead → Type 0
  HeadFits cuts h = Contains cuts h.0 × IsWellFormedRaw defs flow.vars flow.structs.list h.1

  -- a head is read after others
  abbrev head_read : List PointId → List WrittenHead → WrittenHead → Judged Reading
  head_read cuts written h =
      need 3 (is_cut cuts h.0 && stands_behind (states_of written) h.0)
      (need 4 (k.formed h.1) (Ok (record (heading_at cuts written) { heads = states_of written ++ (h.0, state_of h.1) ∷ [] })))

  head_ok : (cuts : List PointId) (written : List WrittenHead) (h : WrittenHead) (r : Reading) → head_read cuts written h ≡ Ok r
      → HeadFits cuts h × (stands_after written h.0 ≡ true) × (heading_at cuts (written ++ h ∷ []) ≡ r)
  head_ok cuts written h r e =
      let three = need_ok 3 (is_cut cuts h.0 && stands_behind (states_of written) h.0) _ r e in
      let four = need_ok 4 (k.formed h.1) _ r three.1 in
      let both = and_both (is_cut cuts h.0) (stands_behind (states_of written) h.0) three.0 in
      let is : record (heading_at cuts written) { heads = states_of written ++ (h.0, state_of h.1) ∷ [] } ≡ r = cc four.1 in (
        (cut_from cuts h.0 both.0, (formed h.1).0 four.0),
        sym (same_place written h.0) ∙ both.1,
        ap (λ (hs : List Head). record (heading_at cuts written) { heads = hs }) (sym (states_end written h)) ∙ is,
      )

  head_yes : (cuts : List PointId) (written : List WrittenHead) (h : WrittenHead) → HeadFits cuts h → stands_after written h.0 ≡ true
      → head_read cuts written h ≡ Ok (heading_at cuts (written ++ h ∷ []))
  head_yes cuts written h fits after =
      need_yes 3 (is_cut cuts h.0 && stands_behind (states_of written) h.0) _
      (and_yes (is_cut cuts h.0) (stands_behind (states_of written) h.0) (cut_to cuts h.0 fits.0) (same_place written h.0 ∙ after))
      ∙ need_yes 4 (k.formed h.1) _ ((formed h.1).1 fits.1)
      ∙ ap (λ (hs : List Head). let r : Judged Reading = Ok (record (heading_at cuts written) { heads = hs }) in r) (states_end written h)

  -- ---- from what is read

  -- heads up to the first pass
  pub record HeadsOf (cuts : List PointId) (lines : List Line) (written : List WrittenHead) (last : Reading) : Type 0 where
    pub more : List WrittenHead
    pub rest : List Line
    pub spelled : lines ≡ map head_line more ++ (line.Pass ∷ rest)
    pub all : List WrittenHead
    pub all_are : all ≡ written ++ more
    pub ordered : AreOrdered all
    pub fit : AllByRecursion (HeadFits cuts) all
    pub number : ℕ
    pub read : lines_at number rest (opened_at flow cuts all) ≡ Ok last

  first_pass : (cuts : List PointId) (n : ℕ) (lines : List Line) (written : List WrittenHead) (last : Reading) → AreOrdered written
      → AllByRecursion (HeadFits cuts) written
      → lines_at n lines (opened_at flow cuts written) ≡ Ok last → HeadsOf cuts (line.Pass ∷ lines) written last
  first_pass cuts n lines written last ordered fit e = record {
    more = [];
    rest = lines;
    spelled = refl;
    all = written;
    all_are = sym (append_none written);
    ordered = ordered;
    fit = fit;
    number = n;
    read = e;
  }

  then_head : (cuts : List PointId) (h : WrittenHead) (lines : List Line) (written : List WrittenHead) (last : Reading)
      → HeadsOf cuts lines (written ++ h ∷ []) last → HeadsOf cuts (head_line h ∷ lines) written last
  then_head cuts h lines written last c = record {
    more = h ∷ c.more;
    rest = c.rest;
    spelled = ap (λ (ls : List Line). head_line h ∷ ls) c.spelled;
    all = c.all;
    all_are = c.all_are ∙ append_end written h c.more;
    ordered = c.ordered;
    fit = c.fit;
    number = c.number;
    read = c.read;
  }

  -- what is read from heads on
  abbrev FromHeads : List PointId → ℕ → List Line → Type 0
  FromHeads cuts n lines = (written : List WrittenHead) (last : Reading) → AreOrdered written → AllByRecursion (HeadFits cuts) written
      → lines_at n lines (heading_at cuts written) ≡ Ok last → last.stage ≡ finished → HeadsOf cuts lines written last

  one_head : (cuts : List PointId) (n : ℕ) (h : WrittenHead) (lines : List Line) → FromHeads cuts (suc n) lines
      → (written : List WrittenHead) (last r : Reading) → AreOrdered written
      → AllByRecursion (HeadFits cuts) written → head_read cuts written h ≡ Ok r → lines_at (suc n) lines r ≡ Ok last → last.stage ≡ finished
      → HeadsOf cuts (head_line h ∷ lines) written last
  one_head cuts n h lines rest written last r ordered fit given e f =
      let ok = head_ok cuts written h r given in
      let on : lines_at (suc n) lines (heading_at cuts (written ++ h ∷ [])) ≡ Ok last = subst (λ (r : Reading). lines_at (suc n) lines r ≡ Ok last)
      (sym ok.2) e in
      then_head cuts h lines written last (rest (written ++ h ∷ []) last (ordered_end written h ordered ok.1) (all_end (HeadFits cuts) written h fit ok.0) on f)

  heads_from : (cuts : List PointId) (n : ℕ) (lines : List Line) → FromHeads cuts n lines
  heads_from cuts n [] written last ordered fit e f =
      let stage : heading ≡ finished = ap (λ (r : Reading). r.stage) (same_reading (heading_at cuts written) last e) ∙ f in absurd (cc stage)
  heads_from cuts n (line.Header version form ∷ lines) written last ordered fit e f = absurd (cc e)
  heads_from cuts n (line.Cut p ∷ lines) written last ordered fit e f = absurd (cc e)
  heads_from cuts n (line.Head p raw ∷ lines) written last ordered fit e f =
      let read = behind_ok n (head_read cuts written (p, raw)) (lines_at (suc n) lines) last e in
      one_head cuts n (p, raw) lines (heads_from cuts (suc n) lines) written last read.0 ordered fit read.1 read.2 f
  heads_from cuts n (line.Pass ∷ lines) written last ordered fit e f = first_pass cuts (suc n) lines written last ordered fit e
  heads_from cuts n (line.End ∷ lines) written last ordered fit e f = absurd (cc e)
  heads_from cuts n (l ∷ lines) written last ordered fit e f = absurd (cc e)

  -- cuts, and heads after them
  pub record FrontOf (lines : List Line) (cuts : List PointId) (last : Reading) : Type 0 where
    pub more : List PointId
    pub rest : List Line
    pub spelled : lines ≡ map line.Cut more ++ rest
    pub all : List PointId
    pub all_are : all ≡ cuts ++ more
    pub ascend : Ascend all
    pub skips : AllByRecursion (IsPoint flow) all
    pub full : has_all_heads flow all ≡ true
    pub heads : HeadsOf all rest [] last

  no_cuts : (lines : List Line) (cuts : List PointId) (last : Reading) → Ascend cuts → AllByRecursion (IsPoint flow) cuts → has_all_heads flow cuts ≡ true
      → HeadsOf cuts lines [] last → FrontOf lines cuts last
  no_cuts lines cuts last ascend skips full heads = record {
    more = [];
    rest = lines;
    spelled = refl;
    all = cuts;
    all_are = sym (append_none cuts);
    ascend = ascend;
    skips = skips;
    full = full;
    heads = heads;
  }

  then_cut : (p : PointId) (lines : List Line) (cuts : List PointId) (last : Reading) → FrontOf lines (cuts ++ p ∷ []) last
      → FrontOf (line.Cut p ∷ lines) cuts last
  then_cut p lines cuts last c = record {
    more = p ∷ c.more;
    rest = c.rest;
    spelled = ap (λ (ls : List Line). line.Cut p ∷ ls) c.spelled;
    all = c.all;
    all_are = c.all_are ∙ append_end cuts p c.more;
    ascend = c.ascend;
    skips = c.skips;
    full = c.full;
    heads = c.heads;
  }

  pub front_from : (n : ℕ) (lines : List Line) (cuts : List PointId) (last : Reading) → Ascend cuts → AllByRecursion (IsPoint flow) cuts
      → lines_at n lines (cutting_at cuts) ≡ Ok last → last.stage ≡ finished → FrontOf lines cuts last
  front_from n [] cuts last ascend skips e f =
      let stage : cutting ≡ finished = ap (λ (r : Reading). r.stage) (same_reading (cutting_at cuts) last e) ∙ f in absurd (cc stage)
  front_from n (line.Cut p ∷ lines) cuts last ascend skips e f =
      let read = behind_ok n (reading_cut flow p (cutting_at cuts)) (lines_at (suc n) lines) last e in
      let ok = cut_ok cuts p read.0 read.1 in
      let on : lines_at (suc n) lines (cutting_at (cuts ++ p ∷ [])) ≡ Ok last = subst (λ (r : Reading). lines_at (suc n) lines r ≡ Ok last) (sym ok.2) read.2 in
      then_cut p lines cuts last (front_from (suc n) lines (cuts ++ p ∷ []) last (ascend_end cuts p ascend ok.1)
      (all_end (IsPoint flow) cuts p skips ok.0) on f)
  front_from n (line.Head p raw ∷ lines) cuts last ascend skips e f =
      let read = behind_ok n (reading_head k flow p raw (cutting_at cuts)) (lines_at (suc n) lines) last e in
      let full = need_ok 1 (has_all_heads flow cuts) (head_read cuts [] (p, raw)) read.0 read.1 in
      no_cuts (line.Head p raw ∷ lines) cuts last ascend skips full.0
      (one_head cuts n (p, raw) lines (heads_from cuts (suc n) lines) [] last read.0 tt tt full.1 read.2 f)
  front_from n (line.Pass ∷ lines) cuts last ascend skips e f =
      let read = behind_ok n (reading_pass flow (cutting_at cuts)) (lines_at (suc n) lines) last e in
      let full = need_ok 1 (has_all_heads flow cuts) (Ok (opened_at flow cuts [])) read.0 read.1 in
      let is : opened_at flow cuts [] ≡ read.0 = same full.1 in
      no_cuts (line.Pass ∷ lines) cuts last ascend skips full.0
      (first_pass cuts (suc n) lines [] last tt tt (subst (λ (r : Reading). lines_at (suc n) lines r ≡ Ok last) (sym is) read.2))
    where
      same : {a b : Reading} → ◌≡◌ {A = Judged Reading} (Ok a) (Ok b) → a ≡ b
      same e = cc e
  front_from n (line.Header version form ∷ lines) cuts last ascend skips e f = absurd (cc e)
  front_from n (line.End ∷ lines) cuts last ascend skips e f = absurd (cc e)
  front_from n (l ∷ lines) cuts last ascend skips e f = absurd (cc e)

  -- ---- and back

  cuts_to : (n : ℕ) (cuts more : List PointId) (rest : List Line) → Ascend (cuts ++ more) → AllByRecursion (IsPoint flow) more
      → (m : ℕ) × (lines_at n (map line.Cut more ++ rest) (cutting_at cuts) ≡ lines_at m rest (cutting_at (cuts ++ more)))
  cuts_to n cuts [] rest ascend skips = (n, ap (λ (cs : List PointId). lines_at n rest (cutting_at cs)) (sym (append_none cuts)))
  cuts_to n cuts (p ∷ more) rest ascend skips =
      let yes = cut_yes cuts p skips.0 (ascend_after cuts p more ascend) in
      let on = cuts_to (suc n) (cuts ++ p ∷ []) more rest (subst Ascend (sym (append_end cuts p more)) ascend) skips.1 in (
        on.0,
        behind_yes n (reading_cut flow p (cutting_at cuts)) (lines_at (suc n) (map line.Cut more ++ rest)) (cutting_at (cuts ++ p ∷ [])) yes
            ∙ on.1
            ∙ ap (λ (cs : List PointId). lines_at on.0 rest (cutting_at cs)) (append_end cuts p more),
      )

  heads_to : (cuts : List PointId) (n : ℕ) (written more : List WrittenHead) (rest : List Line) → AreOrdered (written ++ more)
      → AllByRecursion (HeadFits cuts) more
      → (m : ℕ) × (lines_at n (map head_line more ++ (line.Pass ∷ rest)) (heading_at cuts written) ≡ lines_at m rest (opened_at flow cuts (written ++ more)))
  heads_to cuts n written [] rest ordered fit =
      (suc n, ap (λ (hs : List WrittenHead). lines_at (suc n) rest (opened_at flow cuts hs)) (sym (append_none written)))
  heads_to cuts n written (h ∷ more) rest ordered fit =
      let yes = head_yes cuts written h fit.0 (ordered_after written h more ordered) in
      let on = heads_to cuts (suc n) (written ++ h ∷ []) more rest (subst AreOrdered (sym (append_end written h more)) ordered) fit.1 in (
        on.0,
        behind_yes n (head_read cuts written h) (lines_at (suc n) (map head_line more ++ (line.Pass ∷ rest))) (heading_at cuts (written ++ h ∷ [])) yes
            ∙ on.1
            ∙ ap (λ (hs : List WrittenHead). lines_at on.0 rest (opened_at flow cuts hs)) (append_end written h more),
      )

  -- after the last cut a chain reads as after the last head
  past_cuts : (cuts : List PointId) (n : ℕ) (heads : List WrittenHead) (rest : List Line) → has_all_heads flow cuts ≡ true
      → lines_at n (map head_line heads ++ (line.Pass ∷ rest)) (cutting_at cuts) ≡ lines_at n (map head_line heads ++ (line.Pass ∷ rest)) (heading_at cuts [])
  past_cuts cuts n [] rest full =
      behind_yes n (reading_pass flow (cutting_at cuts)) (lines_at (suc n) rest) (opened_at flow cuts [])
      (need_yes 1 (has_all_heads flow cuts) (Ok (opened_at flow cuts [])) full)
  past_cuts cuts n (h ∷ heads) rest full =
      ap (λ (j : Judged Reading). behind n j (lines_at (suc n) (map head_line heads ++ (line.Pass ∷ rest))))
      (need_yes 1 (has_all_heads flow cuts) (head_read cuts [] h) full)

  -- cuts and heads are read, up to the lines of the first pass
  pub front_to : (cuts : List PointId) (heads : List WrittenHead) (rest : List Line) → Ascend cuts → AllByRecursion (IsPoint flow) cuts
      → has_all_heads flow cuts ≡ true
      → AreOrdered heads → AreHeads flow defs cuts heads
      → (m : ℕ) × (lines_at 2 (map line.Cut cuts ++ (map head_line heads ++ (line.Pass ∷ rest))) (cutting_at []) ≡ lines_at m rest (opened_at flow cuts heads))
  front_to cuts heads rest ascend skips full ordered fit =
      let c = cuts_to 2 [] cuts (map head_line heads ++ (line.Pass ∷ rest)) ascend skips in
      let h = heads_to cuts c.0 [] heads rest ordered fit in
      (h.0, c.1 ∙ past_cuts cuts c.0 heads rest full ∙ h.1)
