-- Cuts and heads, read in front of the lines of rules.
use Rattle.std.proofs.Common.{◌≡◌, ℕ, suc, List, [], ◌∷◌, ◌++◌, Bool, true, false, Option, Some, None, map, refl, ap, sym, subst, ◌∙◌}
use Rattle.std.specs.Prelude.{Result, Ok, Contains, ◌&&◌, if◌then◌else◌}
use Rattle.std.specs.List.{AllByRecursion}
use Rattle.mc_base.specs.declared.ids.PointId.{PointId}
use Rattle.mc_lines.specs.declared.cert.line.Line.{Line}
use Rattle.mc_lines.specs.declared.cert.line.Line.TheVariants as line
use Rattle.mc_flow.specs.declared.defs.rules.Def.{Def}
use Rattle.mc_flow.specs.declared.graph.Flow.{Flow}
use Rattle.mc_flow.specs.declared.instr.Instr.{Instr}
use Rattle.mc_flow.specs.declared.instr.Instr.TheVariants as instr
use Rattle.mc_flow.specs.Valid.{IsSkip}
use Rattle.mc_state.specs.Premises.{Judged, need, have}
use Rattle.mc_state.proofs.Numbered.{need_ok, need_yes, have_ok}
use Rattle.mc_state.proofs.Tests.{and_both, and_yes}
use Rattle.mc_state.specs.declared.line.Form.{Form}
use Rattle.mc_state.specs.declared.line.Form.TheVariants.{Certificate, Chain}
use Rattle.mc_state.specs.declared.raw_state.RawState.{RawState}
use Rattle.mc_state.specs.RawStates.{IsWellFormedRaw}
use Rattle.mc_rules_steps.specs.Operands.{code_at}
use Rattle.mc_kernel.specs.Branches.{Ascend, roots}
use Rattle.mc_kernel.specs.Certificates.{WrittenHead, AreOrdered, states_of}
use Rattle.mc_kernel.specs.Judges.{Knowledge, is_chain, is_cut}
use Rattle.mc_kernel.specs.Readings.{Reading, cutting, heading, behind, ruled, rooted, has_all_heads, is_skip, comes_after, stands_after, reading_cut, reading_head, reading_pass, reading_rule, reading_end, reading_lines}
use Rattle.mc_kernel.proofs.ReadingLemmas.Lists.{all_end, append_none, append_end, ascend_end, ascend_after, ordered_end, ordered_after, cut_from, cut_to}
use Rattle.mc_kernel.proofs.ReadingLemmas.Rules.{behind_ok, behind_yes, ruling_at}
use Rattle.mc_kernel.specs.Reading.Documents.{IsJudge}

-- a document of which only cuts are read
abbrev pub cutting_at : Form → List PointId → Reading
cutting_at form cuts = record { form = form; stage = cutting; cuts = cuts; heads = []; branches = []; stuck = [] }

-- and one of which cuts and heads are read
abbrev pub heading_at : Form → List PointId → List WrittenHead → Reading
heading_at form cuts heads = record { form = form; stage = heading; cuts = cuts; heads = heads; branches = []; stuck = [] }

-- a head as a line
abbrev pub head_line : WrittenHead → Line
head_line h = line.Head h.0 h.1

-- lines begin with a cut
abbrev pub starts_cut : List Line → Bool
starts_cut [] = false
starts_cut (line.Cut p ∷ lines) = true
starts_cut (l ∷ lines) = false

-- lines begin with a head
abbrev pub starts_head : List Line → Bool
starts_head [] = false
starts_head (line.Head p raw ∷ lines) = true
starts_head (l ∷ lines) = false

skip_from : (o : Option Instr) → is_skip o ≡ true → (q : PointId) × (o ≡ Some (instr.Skip q))
skip_from (Some (instr.Skip q)) e = (q, refl)
skip_from other e = absurd (cc e)

skip_to : (o : Option Instr) (q : PointId) → o ≡ Some (instr.Skip q) → is_skip o ≡ true
skip_to o q e = ap is_skip e

root_full : (b : Bool) (t r : Reading) → (if b then Some t else None) ≡ Some r → b ≡ true
root_full true t r e = refl
root_full false t r e = absurd (cc e)

module _ (k : Knowledge) (well : RawState → Bool) (flow : Flow) (defs : List Def) (judge : IsJudge k well flow defs) where
  abbrev lines_at : ℕ → List Line → Reading → Result Reading (ℕ × ℕ)
  lines_at = reading_lines k well flow defs

  abbrev pub IsPoint : PointId → Type 0
  IsPoint p = IsSkip flow.points p

  -- ---- cuts

  pub record CutsOf (form : Form) (lines : List Line) (cuts : List PointId) (last : Reading) : Type 0 where
    pub more : List PointId
    pub rest : List Line
    pub spelled : lines ≡ map line.Cut more ++ rest
    pub all : List PointId
    pub all_are : all ≡ cuts ++ more
    pub ascend : Ascend all
    pub skips : AllByRecursion IsPoint all
    pub starts : starts_cut rest ≡ false
    pub number : ℕ
    pub read : lines_at number rest (cutting_at form all) ≡ Ok last

  cut_ok : (form : Form) (cuts : List PointId) (p : PointId) (r : Reading) → reading_cut flow p (cutting_at form cuts) ≡ Ok r
      → IsPoint p × (comes_after cuts p ≡ true) × (r ≡ cutting_at form (cuts ++ p ∷ []))
  cut_ok form cuts p r e =
      let three = need_ok 3 (is_skip (code_at flow p)) _ r e in
      let four = need_ok 4 (comes_after cuts p) _ r three.1 in
      let skip = skip_from (code_at flow p) three.0 in
      (record { next = skip.0; skips = skip.1 }, four.0, cc four.1)

  cut_yes : (form : Form) (cuts : List PointId) (p : PointId) → IsPoint p → comes_after cuts p ≡ true → reading_cut flow p (cutting_at form cuts) ≡ Ok (cutting_at form (cuts ++ p ∷ []))
  cut_yes form cuts p is after =
      need_yes 3 (is_skip (code_at flow p)) _ (skip_to (code_at flow p) is.next is.skips) ∙ need_yes 4 (comes_after cuts p) _ after

  no_cuts : (form : Form) (n : ℕ) (lines : List Line) (cuts : List PointId) (last : Reading) → Ascend cuts → AllByRecursion IsPoint cuts
      → starts_cut lines ≡ false → lines_at n lines (cutting_at form cuts) ≡ Ok last → CutsOf form lines cuts last
  no_cuts form n lines cuts last ascend skips starts e = record {
    more = [];
    rest = lines;
    spelled = refl;
    all = cuts;
    all_are = sym (append_none cuts);
    ascend = ascend;
    skips = skips;
    starts = starts;
    number = n;
    read = e;
  }

  then_cut : (form : Form) (p : PointId) (lines : List Line) (cuts : List PointId) (last : Reading) → CutsOf form lines (cuts ++ p ∷ []) last → CutsOf form (line.Cut p ∷ lines) cuts last
  then_cut form p lines cuts last c = record {
    more = p ∷ c.more;
    rest = c.rest;
    spelled = ap (λ (ls : List Line). line.Cut p ∷ ls) c.spelled;
    all = c.all;
    all_are = c.all_are ∙ append_end cuts p c.more;
    ascend = c.ascend;
    skips = c.skips;
    starts = c.starts;
    number = c.number;
    read = c.read;
  }

  pub cuts_from : (form : Form) (n : ℕ) (lines : List Line) (cuts : List PointId) (last : Reading) → Ascend cuts → AllByRecursion IsPoint cuts
      → lines_at n lines (cutting_at form cuts) ≡ Ok last → CutsOf form lines cuts last
  cuts_from form n [] cuts last ascend skips e = no_cuts form n [] cuts last ascend skips refl e
  cuts_from form n (line.Cut p ∷ lines) cuts last ascend skips e =
      let read = behind_ok n (reading_cut flow p (cutting_at form cuts)) (lines_at (suc n) lines) last e in
      let ok = cut_ok form cuts p read.0 read.1 in
      let on : lines_at (suc n) lines (cutting_at form (cuts ++ p ∷ [])) ≡ Ok last = subst (λ (r : Reading). lines_at (suc n) lines r ≡ Ok last) ok.2 read.2 in
      then_cut form p lines cuts last
      (cuts_from form (suc n) lines (cuts ++ p ∷ []) last (ascend_end cuts p ascend ok.1) (all_end IsPoint cuts p skips ok.0) on)
  cuts_from form n (l ∷ lines) cuts last ascend skips e = no_cuts form n (l ∷ lines) cuts last ascend skips refl e

  pub cuts_to : (form : Form) (n : ℕ) (cuts more : List PointId) (rest : List Line) → Ascend (cuts ++ more) → AllByRecursion IsPoint more
      → (m : ℕ) × (lines_at n (map line.Cut more ++ rest) (cutting_at form cuts) ≡ lines_at m rest (cutting_at form (cuts ++ more)))
  cuts_to form n cuts [] rest ascend skips = (n, ap (λ (cs : List PointId). lines_at n rest (cutting_at form cs)) (sym (append_none cuts)))
  cuts_to form n cuts (p ∷ more) rest ascend skips =
      let yes = cut_yes form cuts p skips.0 (ascend_after cuts p more ascend) in
      let on = cuts_to form (suc n) (cuts ++ p ∷ []) more rest (subst Ascend (sym (append_end cuts p more)) ascend) skips.1 in (
        on.0,
        behind_yes n (reading_cut flow p (cutting_at form cuts)) (lines_at (suc n) (map line.Cut more ++ rest)) (cutting_at form (cuts ++ p ∷ [])) yes
            ∙ on.1 ∙ ap (λ (cs : List PointId). lines_at on.0 rest (cutting_at form cs)) (append_end cuts p more),
      )

  -- ---- heads

  -- a head at a cut with a well-formed state
  abbrev pub HeadFits : List PointId → WrittenHead → Type 0
  HeadFits cuts h = Contains cuts h.0 × IsWellFormedRaw defs flow.vars flow.structs.list h.1

  pub record HeadsOf (form : Form) (cuts : List PointId) (lines : List Line) (heads : List WrittenHead) (last : Reading) : Type 0 where
    pub more : List WrittenHead
    pub rest : List Line
    pub spelled : lines ≡ map head_line more ++ rest
    pub all : List WrittenHead
    pub all_are : all ≡ heads ++ more
    pub ordered : AreOrdered all
    pub fit : AllByRecursion (HeadFits cuts) all
    pub starts : starts_head rest ≡ false
    pub number : ℕ
    pub read : lines_at number rest (heading_at form cuts all) ≡ Ok last

  head_ok : (form : Form) (cuts : List PointId) (heads : List WrittenHead) (p : PointId) (raw : RawState) (r : Reading) → reading_head well flow p raw (heading_at form cuts heads) ≡ Ok r
      → HeadFits cuts (p, raw) × (stands_after heads p ≡ true) × (r ≡ heading_at form cuts (heads ++ (p, raw) ∷ []))
  head_ok form cuts heads p raw r e =
      let three = need_ok 3 (is_cut cuts p && stands_after heads p) _ r e in
      let four = need_ok 4 (well raw) _ r three.1 in
      let both = and_both (is_cut cuts p) (stands_after heads p) three.0 in
      ((cut_from cuts p both.0, (judge.formed raw).0 four.0), both.1, cc four.1)

  head_yes : (form : Form) (cuts : List PointId) (heads : List WrittenHead) (h : WrittenHead) → HeadFits cuts h → stands_after heads h.0 ≡ true
      → reading_head well flow h.0 h.1 (heading_at form cuts heads) ≡ Ok (heading_at form cuts (heads ++ h ∷ []))
  head_yes form cuts heads h fits after =
      need_yes 3 (is_cut cuts h.0 && stands_after heads h.0) _ (and_yes (is_cut cuts h.0) (stands_after heads h.0) (cut_to cuts h.0 fits.0) after)
      ∙ need_yes 4 (well h.1) _ ((judge.formed h.1).1 fits.1)

  no_heads : (form : Form) (cuts : List PointId) (n : ℕ) (lines : List Line) (heads : List WrittenHead) (last : Reading) → AreOrdered heads → AllByRecursion (HeadFits cuts) heads
      → starts_head lines ≡ false → lines_at n lines (heading_at form cuts heads) ≡ Ok last → HeadsOf form cuts lines heads last
  no_heads form cuts n lines heads last ordered fit starts e = record {
    more = [];
    rest = lines;
    spelled = refl;
    all = heads;
    all_are = sym (append_none heads);
    ordered = ordered;
    fit = fit;
    starts = starts;
    number = n;
    read = e;
  }

  then_head : (form : Form) (cuts : List PointId) (h : WrittenHead) (lines : List Line) (heads : List WrittenHead) (last : Reading)
      → HeadsOf form cuts lines (heads ++ h ∷ []) last → HeadsOf form cuts (head_line h ∷ lines) heads last
  then_head form cuts h lines heads last c = record {
    more = h ∷ c.more;
    rest = c.rest;
    spelled = ap (λ (ls : List Line). head_line h ∷ ls) c.spelled;
    all = c.all;
    all_are = c.all_are ∙ append_end heads h c.more;
    ordered = c.ordered;
    fit = c.fit;
    starts = c.starts;
    number = c.number;
    read = c.read;
  }

  pub heads_from : (form : Form) (cuts : List PointId) (n : ℕ) (lines : List Line) (heads : List WrittenHead) (last : Reading) → AreOrdered heads → AllByRecursion (HeadFits cuts) heads
      → lines_at n lines (heading_at form cuts heads) ≡ Ok last → HeadsOf form cuts lines heads last
  heads_from form cuts n [] heads last ordered fit e = no_heads form cuts n [] heads last ordered fit refl e
  heads_from form cuts n (line.Head p raw ∷ lines) heads last ordered fit e =
      let read = behind_ok n (reading_head well flow p raw (heading_at form cuts heads)) (lines_at (suc n) lines) last e in
      let ok = head_ok form cuts heads p raw read.0 read.1 in
      let on : lines_at (suc n) lines (heading_at form cuts (heads ++ (p, raw) ∷ [])) ≡ Ok last = subst (λ (r : Reading). lines_at (suc n) lines r ≡ Ok last) ok.2 read.2 in
      then_head form cuts (p, raw) lines heads last
      (heads_from form cuts (suc n) lines (heads ++ (p, raw) ∷ []) last (ordered_end heads (p, raw) ordered ok.1) (all_end (HeadFits cuts) heads (p, raw) fit ok.0) on)
  heads_from form cuts n (l ∷ lines) heads last ordered fit e = no_heads form cuts n (l ∷ lines) heads last ordered fit refl e

  pub heads_to : (form : Form) (cuts : List PointId) (n : ℕ) (heads more : List WrittenHead) (rest : List Line) → AreOrdered (heads ++ more) → AllByRecursion (HeadFits cuts) more
      → (m : ℕ) × (lines_at n (map head_line more ++ rest) (heading_at form cuts heads) ≡ lines_at m rest (heading_at form cuts (heads ++ more)))
  heads_to form cuts n heads [] rest ordered fit = (n, ap (λ (hs : List WrittenHead). lines_at n rest (heading_at form cuts hs)) (sym (append_none heads)))
  heads_to form cuts n heads (h ∷ more) rest ordered fit =
      let yes = head_yes form cuts heads h fit.0 (ordered_after heads h more ordered) in
      let on = heads_to form cuts (suc n) (heads ++ h ∷ []) more rest (subst AreOrdered (sym (append_end heads h more)) ordered) fit.1 in (
        on.0,
        behind_yes n (reading_head well flow h.0 h.1 (heading_at form cuts heads)) (lines_at (suc n) (map head_line more ++ rest)) (heading_at form cuts (heads ++ h ∷ [])) yes
            ∙ on.1 ∙ ap (λ (hs : List WrittenHead). lines_at on.0 rest (heading_at form cuts hs)) (append_end heads h more),
      )

  -- ---- from one stage to the next

  -- rule lines begin after cuts as after no heads
  rooted_same : (form : Form) (cuts : List PointId) (n : ℕ) (lines : List Line) (f : Reading → Judged Reading)
      → behind n (have 1 (rooted flow (cutting_at form cuts) form) f) (lines_at (suc n) lines)
      ≡ behind n (have 1 (rooted flow (heading_at form cuts []) form) f) (lines_at (suc n) lines)
  rooted_same Certificate cuts n lines f = refl
  rooted_same Chain cuts n lines f = refl

  -- after the last cut a document reads as after the last head
  pub from_cuts : (form : Form) (cuts : List PointId) (n : ℕ) (lines : List Line) (l : Line) → has_all_heads flow cuts ≡ true → starts_cut (l ∷ lines) ≡ false
      → lines_at n (l ∷ lines) (cutting_at form cuts) ≡ lines_at n (l ∷ lines) (heading_at form cuts [])
  from_cuts form cuts n lines (line.Header version other) full starts = refl
  from_cuts form cuts n lines (line.Cut p) full starts = absurd (cc starts)
  from_cuts form cuts n lines (line.Head p raw) full starts =
      ap (λ (b : Bool). behind n (need 1 b (reading_head well flow p raw (heading_at form cuts []))) (lines_at (suc n) lines)) full
  from_cuts form cuts n lines line.Pass full starts = refl
  from_cuts form cuts n lines line.End full starts = rooted_same form cuts n lines _
  from_cuts form cuts n lines l full starts = rooted_same form cuts n lines _

  -- a certificate whose roots are open
  abbrev pub rooted_at : List PointId → List WrittenHead → Reading
  rooted_at cuts heads = ruling_at Certificate cuts heads (roots flow (states_of heads)) []

  -- and a certificate after the last head as where the roots are open
  pub from_heads : (cuts : List PointId) (heads : List WrittenHead) (n : ℕ) (lines : List Line) (l : Line) → has_all_heads flow cuts ≡ true → starts_head (l ∷ lines) ≡ false
      → lines_at n (l ∷ lines) (heading_at Certificate cuts heads) ≡ lines_at n (l ∷ lines) (rooted_at cuts heads)
  from_heads cuts heads n lines l full starts = at l starts
    where
      rule : (f : Reading → Judged Reading) → behind n (have 1 (if has_all_heads flow cuts then Some (rooted_at cuts heads) else None) f) (lines_at (suc n) lines) ≡ behind n (f (rooted_at cuts heads)) (lines_at (suc n) lines)
      rule f = ap (λ (b : Bool). behind n (have 1 (if b then Some (rooted_at cuts heads) else None) f) (lines_at (suc n) lines)) full

      at : (l : Line) → starts_head (l ∷ lines) ≡ false → lines_at n (l ∷ lines) (heading_at Certificate cuts heads) ≡ lines_at n (l ∷ lines) (rooted_at cuts heads)
      at (line.Header version form) starts = refl
      at (line.Cut p) starts = refl
      at (line.Head p raw) starts = absurd (cc starts)
      at line.Pass starts = refl
      at line.End starts = rule _
      at l starts = rule _

  root_is : (form : Form) (cuts : List PointId) (f : Reading → Judged Reading) (r : Reading)
      → have 1 (rooted flow (cutting_at form cuts) form) f ≡ Ok r → has_all_heads flow cuts ≡ true
  root_is Certificate cuts f r e =
      let found = have_ok 1 (rooted flow (cutting_at Certificate cuts) Certificate) f r e in
      root_full (has_all_heads flow cuts) (ruled (cutting_at Certificate cuts) (roots flow [])) found.0 found.1
  root_is Chain cuts f r e = absurd (cc e)

  -- where a document goes on after its cuts, each loop head is one
  pub full_of : (form : Form) (cuts : List PointId) (n : ℕ) (lines : List Line) (l : Line) (last : Reading) → starts_cut (l ∷ lines) ≡ false
      → lines_at n (l ∷ lines) (cutting_at form cuts) ≡ Ok last → has_all_heads flow cuts ≡ true
  full_of form cuts n lines (line.Header version other) last starts e = absurd (cc e)
  full_of form cuts n lines (line.Cut p) last starts e = absurd (cc starts)
  full_of form cuts n lines (line.Head p raw) last starts e =
      let read = behind_ok n (reading_head well flow p raw (cutting_at form cuts)) (lines_at (suc n) lines) last e in
      (need_ok 1 (has_all_heads flow cuts) _ read.0 read.1).0
  full_of form cuts n lines line.Pass last starts e =
      let read = behind_ok n (reading_pass flow (cutting_at form cuts)) (lines_at (suc n) lines) last e in
      let one = need_ok 1 (is_chain form && has_all_heads flow cuts) _ read.0 read.1 in
      (and_both (is_chain form) (has_all_heads flow cuts) one.0).1
  full_of form cuts n lines line.End last starts e =
      let read = behind_ok n (reading_end flow (cutting_at form cuts)) (lines_at (suc n) lines) last e in
      root_is form cuts _ read.0 read.1
  full_of form cuts n lines l last starts e =
      let read = behind_ok n (reading_rule k flow defs l (cutting_at form cuts)) (lines_at (suc n) lines) last e in
      root_is form cuts _ read.0 read.1
