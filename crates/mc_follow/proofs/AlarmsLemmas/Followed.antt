-- Chains that are followed line by line.
use Rattle.std.proofs.Common.{◌≡◌, ◌++◌, ◌∷◌, ◌∙◌, ◌+◌, ◌<◌, ◌≤◌, ◌⊎◌, inl, inr, ℕ, List, [], Bool, true, false, Option, Some, None, Contains, map, option_map, refl, sym, ap, ap₂, subst, length, append_assoc, arith}
use Rattle.std.specs.Prelude.{Err, Ok, is_some}
use Rattle.std.specs.List.{AllByRecursion, list_all}
use Rattle.std.proofs.lemmas.List.{append-nil, length-map, map-append}
use Rattle.mc_lines.specs.declared.cert.line.Line.{Line}
use Rattle.mc_lines.specs.declared.cert.line.Line.TheVariants as line
use Rattle.mc_flow.specs.declared.defs.rules.Def.{Def}
use Rattle.mc_flow.specs.declared.graph.Flow.{Flow}
use Rattle.mc_flow.specs.Valid.{IsValid}
use Rattle.mc_state.specs.Premises.{Judged, need, have}
use Rattle.mc_state.specs.declared.line.Form.TheVariants.{Chain}
use Rattle.mc_state.specs.declared.line.Version.TheVariants.{One}
use Rattle.mc_state.specs.declared.raw_state.RawState.{RawState}
use Rattle.mc_kernel.specs.Branches.{Head, IsPlain, MayStep, Path, Setting, entry_path, roots}
use Rattle.mc_kernel.specs.Certificates.{states_of}
use Rattle.mc_state.specs.declared.line.Form.{Form}
use Rattle.mc_rules_steps.specs.declared.gap.Gap.{Gap}
use Rattle.mc_rules_steps.specs.Unmet.{IsUnmet}
use Rattle.mc_exact.specs.Marks.{Alarm, IsMark, alone, entry}
use Rattle.mc_follow.specs.Alarms.Tracks.{tracks_after}
use Rattle.mc_follow.specs.declared.alarms.coming.Coming.{Coming}
use Rattle.mc_follow.proofs.AlarmsLemmas.Marked.{ended_tracks, marked_more, marked_stuck}
use Rattle.mc_kernel.specs.Instances.{IsInstance, IsStuck}
use Rattle.mc_kernel.specs.Judges.{Knowledge, is_cut}
use Rattle.mc_kernel.specs.Readings.{Reading, Stage, begun, behind, cutting, finished, first_branch, heading, has_no_branch, marked, ready, reading_line, ruled, ruling, setting_of}
use Rattle.mc_base.specs.declared.ids.PointId.{PointId}
use Rattle.mc_state.specs.Known.{Test, Tells}
use Rattle.mc_kernel.specs.Progress.Asked.{IsRight, false_or_null}
use Rattle.mc_kernel.specs.Progress.Progress.{IsInside, advances}
use Rattle.mc_document.specs.Proof.Lines.{setting_at}
use Rattle.mc_document.specs.Proof.Positions.{IsApplied, IsRefusedHere, Position, Stands, position_of}
use Rattle.mc_kernel.specs.Reading.Documents.{IsAskedHere, IsJudge, IsKept, IsMade, IsReadAt, IsShortChain, is_rule, reading_document}
use Rattle.mc_follow.specs.Report.Heads.{heads_of}
use Rattle.mc_follow.specs.Report.Report.{AreAlarmLines, IsAlarmLine, count_line, real_line}
use Rattle.mc_exact.specs.Exact.{Picks}
use Rattle.mc_follow.specs.Alarms.Laws.{BranchesAreFollowed, DocumentsAreFollowed}
use Rattle.mc_follow.specs.declared.alarms.outcome.Document.{Document}
use Rattle.mc_follow.specs.declared.alarms.walk.Walk.{Walk}
use Rattle.mc_follow.specs.Alarms.Outcomes.{IsCrowded, IsOnward, IsWhole}
use Rattle.mc_follow.specs.Alarms.Walks.{AreOpen, IsAtCode, IsAtFirst, IsCodeLine, IsComing, IsFirstGone, IsFollowed, IsMet, IsNowhere, IsSure, IsTurned, IsWalk, MayApply, ended_by, ending, goes_on}
use Rattle.mc_state.specs.declared.goal.Goal.{Goal}
use Rattle.mc_document.specs.Places.{AreInPlace, HasPlaces, cut_of, may_stand}
use Rattle.mc_document.proofs.PlacesLemmas.{placed_more}
use Rattle.mc_follow.proofs.AlarmsLemmas.Going.{ends_one, goes_by_advance, goes_by_rule, goes_unmarked, plain_stands, rule_uncut, rule_unheaded, uncut_more, unheaded_more}
use Rattle.mc_follow.proofs.ReportLemmas.Written.{headless_report}

-- what holds of a flow graph and definitions holds of equal ones
pub move : (P : Flow → List Def → Type 0) (f g : Flow) (d e : List Def) → f ≡ g → d ≡ e → P f d → P g e
move P f g d e p q x = subst (λ (ds : List Def). P g ds) q (subst (λ (h : Flow). P h d) p x)

need_ok : {A : Type 0} (k : ℕ) (b : Bool) (x y : A) → ◌≡◌ {A = Judged A} (need k b (Ok x)) (Ok y) → x ≡ y
need_ok k true x y e = cc e
need_ok k false x y e = absurd (cc e)

-- what lines are judged by where there are neither cuts nor heads
judged_alone : (p : Position) → p.form ≡ Chain → p.cuts ≡ [] → p.heads ≡ [] → setting_at p ≡ alone
judged_alone p form cuts heads =
    ap (λ (f : Form). record { form = f; cuts = p.cuts; heads = p.heads }) form
    ∙ ap₂ (λ (c : List PointId) (h : List Head). record { form = Chain; cuts = c; heads = h }) cuts heads

ended_more : (lines : List Line) (l : Line) → ended_by (lines ++ l ∷ []) ≡ ended_by lines + ending l
ended_more [] l = omega arith
ended_more (m ∷ lines) l = let e : ended_by (lines ++ l ∷ []) ≡ ended_by lines + ending l = ended_more lines l in omega (arith, e)

-- lines more after those of alarms
pub alarm_more : (flow : Flow) (defs : List Def) (alarms : List Alarm) (a : Alarm) (text line : List ℕ) → AreAlarmLines flow defs alarms text
    → IsAlarmLine flow defs a.0.point a.0.state line → AreAlarmLines flow defs (alarms ++ a ∷ []) (text ++ (line ++ real_line a.1))
alarm_more flow defs [] a text line none is =
    (line, [], is, refl, ap (λ (t : List ℕ). t ++ (line ++ real_line a.1)) none ∙ sym (append-nil (line ++ real_line a.1)))
alarm_more flow defs (c ∷ alarms) a text line (own, later, is_own, rest, spelled) is = (
  own,
  later ++ (line ++ real_line a.1),
  is_own,
  alarm_more flow defs alarms a later line rest is,
  ap (λ (t : List ℕ). t ++ (line ++ real_line a.1)) spelled ∙ append_assoc (own ++ real_line c.1) later (line ++ real_line a.1),
)

module _ (laws : DocumentsAreFollowed) (flow : Flow) (defs : List Def) (valid : IsValid flow defs) where
  module _ (k : Knowledge) (well : RawState → Bool) (judge : IsJudge k well flow defs) where
    -- what a line makes of what is read
    pub record IsMore (lines : List Line) (l : Line) (last : Reading) (new : Position) : Type 0 where
      pub next : Reading
      pub line_read : reading_line k well flow defs l last ≡ Ok next
      pub read : reading_document k well flow defs Chain (lines ++ l ∷ []) ≡ Ok next
      pub of_flow : new.flow ≡ flow
      pub of_defs : new.defs ≡ defs
      pub stands : Stands k well next new

    pub more : (lines : List Line) (l : Line) (last : Reading) (old new : Position) → reading_document k well flow defs Chain lines ≡ Ok last
        → Stands k well last old → old.flow ≡ flow → old.defs ≡ defs → IsApplied l old new → IsMore lines l last new
    more lines l last old new read stands pf pd applied =
        let a = applied k well last stands in
        let own : reading_line k well flow defs l last ≡ Ok a.0 = move (λ (f : Flow) (d : List Def). reading_line k well f d l last ≡ Ok a.0) old.flow flow old.defs defs pf pd a.1 in
        let here : position_of flow defs a.0 ≡ new = move (λ (f : Flow) (d : List Def). position_of f d a.0 ≡ new) old.flow flow old.defs defs pf pd a.2 in
        let kept : IsKept flow defs last = move (λ (f : Flow) (d : List Def). IsKept f d last) old.flow flow old.defs defs pf pd stands.kept in
        let flows : flow ≡ new.flow = ap (λ (p : Position). p.flow) here in
        let all : defs ≡ new.defs = ap (λ (p : Position). p.defs) here in
        record {
          next = a.0;
          line_read = own;
          read = laws.added k well flow defs Chain lines l last read
              ∙ ap (λ (j : Judged Reading). behind (2 + length lines) j (λ (r : Reading). Ok r)) own;
          of_flow = sym flows;
          of_defs = sym all;
          stands = record {
            judge = move (λ (f : Flow) (d : List Def). IsJudge k well f d) flow new.flow defs new.defs flows all judge;
            kept = move (λ (f : Flow) (d : List Def). IsKept f d a.0) flow new.flow defs new.defs flows all (laws.keep k well flow defs l last a.0 valid judge kept own);
            here = move (λ (f : Flow) (d : List Def). position_of f d a.0 ≡ new) flow new.flow defs new.defs flows all here;
          };
        }

    -- where rule lines are read
    stage_is : (last : Reading) (p : Position) → Stands k well last p → p.stage ≡ ruling → last.stage ≡ ruling
    stage_is last p stands e = ap (λ (q : Position). q.stage) stands.here ∙ e

    same_ready : (last t : Reading) → last.stage ≡ ruling → ready flow last last.stage ≡ Some t → last ≡ t
    same_ready last t e is =
        let some : Some last ≡ Some t = subst (λ (s : Stage). ready flow last s ≡ Some t) e is in cc some

    asked_here : (last : Reading) → last.stage ≡ ruling → IsKept flow defs last → IsAskedHere k flow defs last
    asked_here last e kept = λ t b others is there.
        let same : last ≡ t = same_ready last t e is in
        let branches : last.branches ≡ b ∷ others = ap (λ (r : Reading). r.branches) same ∙ there in
        judge.asked b (subst (λ (bs : List Path). AllByRecursion (IsMade flow defs) bs) branches kept.branches).0

    -- what the line of a rule makes of it
    pub record IsRuled (l : Line) (last : Reading) (old : Position) (next : Reading) : Type 0 where
      pub first : Path
      pub others : List Path
      pub open_are : old.branches ≡ first ∷ others
      pub stuck_are : next.stuck ≡ last.stuck ++ marked l first
      pub begun_still : next.stage ≡ ruling
      pub paths : List Path
      pub instance : IsInstance flow defs (setting_at old) l first paths
      pub branches_are : next.branches ≡ paths ++ others
      pub same_form : next.form ≡ last.form
      pub same_cuts : next.cuts ≡ last.cuts
      pub same_heads : next.heads ≡ last.heads

    pub ruled_by : (l : Line) (last : Reading) (old : Position) (next : Reading) → is_rule l ≡ true → Stands k well last old
        → old.flow ≡ flow → old.defs ≡ defs → old.stage ≡ ruling → reading_line k well flow defs l last ≡ Ok next → IsRuled l last old next
    ruled_by l last old next rule stands pf pd e read =
        let stage : last.stage ≡ ruling = stage_is last old stands e in
        let kept : IsKept flow defs last = move (λ (f : Flow) (d : List Def). IsKept f d last) old.flow flow old.defs defs pf pd stands.kept in
        let i : IsReadAt flow defs l last next = (laws.rules k well flow defs l last next (asked_here last stage kept) rule).0 read in
        let same : last ≡ i.begun_rules = same_ready last i.begun_rules stage i.is_ready in
        record {
          first = i.first;
          others = i.others;
          open_are = sym (ap (λ (q : Position). q.branches) stands.here) ∙ ap (λ (r : Reading). r.branches) same ∙ i.open_are;
          stuck_are = ap (λ (r : Reading). r.stuck) i.gives ∙ ap (λ (r : Reading). r.stuck ++ marked l i.first) (sym same);
          begun_still = ap (λ (r : Reading). r.stage) i.gives ∙ ap (λ (r : Reading). r.stage) (sym same) ∙ stage;
          paths = i.next;
          instance = subst (λ (g : Setting). IsInstance flow defs g l i.first i.next) (ap setting_of (sym same) ∙ ap setting_at stands.here) i.instance;
          branches_are = ap (λ (r : Reading). r.branches) i.gives;
          same_form = ap (λ (r : Reading). r.form) i.gives ∙ ap (λ (r : Reading). r.form) (sym same);
          same_cuts = ap (λ (r : Reading). r.cuts) i.gives ∙ ap (λ (r : Reading). r.cuts) (sym same);
          same_heads = ap (λ (r : Reading). r.heads) i.gives ∙ ap (λ (r : Reading). r.heads) (sym same);
        }

    -- what comes of it where the document stands then
    record IsMoved (old new : Position) (others paths : List Path) : Type 0 where
      pub branches_are : new.branches ≡ paths ++ others
      pub form_is : new.form ≡ old.form
      pub cuts_are : new.cuts ≡ old.cuts
      pub heads_are : new.heads ≡ old.heads

    moved_by : (l : Line) (last next : Reading) (old new : Position) → Stands k well last old → Stands k well next new → (i : IsRuled l last old next)
        → IsMoved old new i.others i.paths
    moved_by l last next old new before behind_it i = record {
      branches_are = sym (ap (λ (q : Position). q.branches) behind_it.here) ∙ i.branches_are;
      form_is = sym (ap (λ (q : Position). q.form) behind_it.here) ∙ i.same_form ∙ ap (λ (q : Position). q.form) before.here;
      cuts_are = sym (ap (λ (q : Position). q.cuts) behind_it.here) ∙ i.same_cuts ∙ ap (λ (q : Position). q.cuts) before.here;
      heads_are = sym (ap (λ (q : Position). q.heads) behind_it.here) ∙ ap states_of i.same_heads ∙ ap (λ (q : Position). q.heads) before.here;
    }

    still_begun : (next : Reading) (new : Position) → Stands k well next new → next.stage ≡ ruling → new.stage ≡ ruling
    still_begun next new stands e = sym (ap (λ (q : Position). q.stage) stands.here) ∙ e

    first_is : (old : Position) (b first : Path) (others : List Path) → old.branches ≡ first ∷ others
        → Some b ≡ option_map (λ (c : Path × List Path). c.0) (first_branch old.branches) → b ≡ first
    first_is old b first others there is =
        let some : Some b ≡ Some first = is ∙ ap (λ (bs : List Path). option_map (λ (c : Path × List Path). c.0) (first_branch bs)) there in cc some

  spelled_more : (lines own : List Line) (l : Line) → lines ≡ line.Header One Chain ∷ own → lines ++ l ∷ [] ≡ line.Header One Chain ∷ (own ++ l ∷ [])
  spelled_more lines own l e = ap (λ (ls : List Line). ls ++ l ∷ []) e

  -- ---- lines that are added

  -- what comes of the first branch is open, where the line advances it or it is a side branch
  module _ (more_laws : BranchesAreFollowed) (g : Setting) (l : Line) (b : Path) (next : List Path) (here : IsInside flow b × (b.closing ≡ false))
      (fits : IsPlain b → advances l ≡ true) (i : IsInstance flow defs g l b next) where
    next_open : AreOpen flow next
    next_open = all_two next (more_laws.inside flow defs g l b next valid here.0 i) (more_laws.still_open flow defs g l b next here.1 fits i)
      where
        all_two : (bs : List Path) → AllByRecursion (IsInside flow) bs → AllByRecursion (λ c. c.closing ≡ false) bs → AreOpen flow bs
        all_two [] one two = tt
        all_two (c ∷ bs) one two = ((one.0, two.0), all_two bs one.1 two.1)

  both_open : (bs cs : List Path) → AreOpen flow bs → AreOpen flow cs → AreOpen flow (bs ++ cs)
  both_open [] cs one two = two
  both_open (b ∷ bs) cs one two = (one.0, both_open bs cs one.1 two)

  -- a line that may stand at the first branch stands where it may
  placed_more_by : (lines : List Line) (l : Line) (old : Position) (text : List ℕ) (ended : ℕ) (tracks : List (Option Picks)) → may_stand l old.branches ≡ true
      → (f : IsFollowed flow defs lines old text ended tracks)
      → (k : Knowledge) (well : RawState → Bool) → IsJudge k well flow defs → AreInPlace k well flow defs ((line.Pass ∷ f.rules) ++ l ∷ []) (begun Chain)
  placed_more_by lines l old text ended tracks may f k well judge =
      let r = f.reads k well judge in
      placed_more k well flow defs 2 (line.Pass ∷ f.rules) l (begun Chain) r.last r.read (f.in_place k well judge)
      (ap (λ (q : Position). may_stand l q.branches) r.stands.here ∙ may)

  -- so it is in its place in the document
  places_more : (lines : List Line) (l : Line) (old : Position) (text : List ℕ) (ended : ℕ) (tracks : List (Option Picks)) → cut_of l ≡ [] → may_stand l old.branches ≡ true
      → IsFollowed flow defs lines old text ended tracks → HasPlaces flow defs Chain (lines ++ l ∷ [])
  places_more lines l old text ended tracks uncut may f = record {
    cuts = uncut_more lines l uncut ∙ f.uncut ∙ sym f.no_loops;
    sides = record {
      behind = (line.Pass ∷ f.rules) ++ l ∷ [];
      spelled = spelled_more lines (line.Pass ∷ f.rules) l f.spelled;
      in_place = placed_more_by lines l old text ended tracks may f;
    };
  }

  pub goes_further : (more_laws : BranchesAreFollowed) (lines : List Line) (l : Line) (old new : Position) (text : List ℕ) (ended : ℕ) (tracks : List (Option Picks)) (n : ℕ) → goes_on l ≡ true → MayApply l old
      → IsFollowed flow defs lines old text ended tracks → IsApplied l old new → n ≡ ended + ending l → n ≤ 65536
      → (coming : Coming) → IsComing defs l old coming → (new_tracks : List (Option Picks))
      → ((track : Option Picks) (rest : List (Option Picks)) → tracks ≡ track ∷ rest → new_tracks ≡ tracks_after l coming.node track coming.count ++ rest)
      → IsFollowed flow defs (lines ++ l ∷ []) new text n new_tracks
  goes_further more_laws lines l old new text ended tracks n goes fits f applied count few coming is_coming new_tracks turned =
      let one = laws.judges flow defs valid in
      let r = f.reads one.0 one.1 one.2 in
      let m = more one.0 one.1 one.2 (line.Pass ∷ f.rules) l r.last old new r.read r.stands f.of_flow f.of_defs applied in
      let i = ruled_by one.0 one.1 one.2 l r.last old m.next (goes_by_rule l goes) r.stands f.of_flow f.of_defs f.ruled m.line_read in
      let v = moved_by one.0 one.1 one.2 l r.last m.next old new r.stands m.stands i in
      let before : AreOpen flow (i.first ∷ i.others) = subst (AreOpen flow) i.open_are f.open_are in
      let after : AreOpen flow i.paths = next_open more_laws (setting_at old) l i.first i.paths before.0 (fits.advance i.first i.others i.open_are) i.instance in
      record {
        form_is = v.form_is ∙ f.form_is;
        no_cuts = v.cuts_are ∙ f.no_cuts;
        no_heads = v.heads_are ∙ f.no_heads;
        open_are = subst (AreOpen flow) (sym v.branches_are) (both_open i.paths i.others after before.1);
        valid = valid;
        rules = f.rules ++ l ∷ [];
        spelled = spelled_more lines (line.Pass ∷ f.rules) l f.spelled;
        of_flow = m.of_flow;
        of_defs = m.of_defs;
        ruled = still_begun one.0 one.1 one.2 m.next new m.stands i.begun_still;
        alarms = f.alarms;
        told = f.told;
        marked = marked_more flow defs f.rules old.branches tracks f.alarms l i.first i.others i.paths new.branches coming.node coming.count new_tracks f.marked i.open_are
            (fits.advance i.first i.others i.open_are) (subst (λ (g : Setting). IsInstance flow defs g l i.first i.paths) (judged_alone old f.form_is f.no_cuts f.no_heads) i.instance)
            v.branches_are (is_coming i.first i.others i.open_are).0 (is_coming i.first i.others i.open_are).1 turned;
        reads = λ k well judge.
            let r = f.reads k well judge in
            let m = more k well judge (line.Pass ∷ f.rules) l r.last old new r.read r.stands f.of_flow f.of_defs applied in
            let i = ruled_by k well judge l r.last old m.next (goes_by_rule l goes) r.stands f.of_flow f.of_defs f.ruled m.line_read in
            let same : r.last.stuck ≡ m.next.stuck =
            sym (i.stuck_are ∙ ap (λ (bs : List Path). r.last.stuck ++ bs) (goes_unmarked l i.first goes) ∙ append-nil r.last.stuck) in
            record {
              last = m.next;
              read = m.read;
              stands = m.stands;
              stuck_are = sym same ∙ r.stuck_are;
            };
        counted = count ∙ ap (λ (m : ℕ). m + ending l) f.counted ∙ sym (ended_more lines l);
        within = few;
        no_loops = f.no_loops;
        uncut = uncut_more lines l (rule_uncut l (goes_by_rule l goes)) ∙ f.uncut;
        unheaded = unheaded_more lines l f.unheaded (rule_unheaded l (goes_by_rule l goes));
        in_place = placed_more_by lines l old text ended tracks fits.stands f;
      }

  -- what it made of the first branch
  pub turns : (lines : List Line) (l : Line) (old new : Position) (text : List ℕ) (ended : ℕ) (tracks : List (Option Picks)) → is_rule l ≡ true → IsFollowed flow defs lines old text ended tracks
      → IsApplied l old new → IsTurned flow defs l old new
  turns lines l old new text ended tracks rule f applied =
      let one = laws.judges flow defs valid in
      let r = f.reads one.0 one.1 one.2 in
      let m = more one.0 one.1 one.2 (line.Pass ∷ f.rules) l r.last old new r.read r.stands f.of_flow f.of_defs applied in
      let i = ruled_by one.0 one.1 one.2 l r.last old m.next rule r.stands f.of_flow f.of_defs f.ruled m.line_read in
      let v = moved_by one.0 one.1 one.2 l r.last m.next old new r.stands m.stands i in
      record { first = i.first; others = i.others; branches_are = i.open_are; next = i.paths; instance = i.instance; come = v.branches_are }

  pub sticks : (lines : List Line) (old new : Position) (text told : List ℕ) (ended : ℕ) (tracks : List (Option Picks)) (n : ℕ) (b : Path) (gap : Gap)
      (mark : Option (List ℕ)) (after : List (Option Picks))
      → IsFollowed flow defs lines old text ended tracks → Some b ≡ option_map (λ (c : Path × List Path). c.0) (first_branch old.branches)
      → IsAlarmLine flow defs b.point b.state told → IsApplied line.C1 old new → n ≡ ended + 1 → n ≤ 65536 → IsUnmet flow defs b.point b.state gap
      → ((track : Option Picks) (rest : List (Option Picks)) → tracks ≡ track ∷ rest → IsMark b.state track gap mark × (after ≡ rest))
      → IsFollowed flow defs (lines ++ line.C1 ∷ []) new (text ++ (told ++ real_line mark)) n after
  sticks lines old new text told ended tracks n b gap mark after f current is applied count few unmet turned =
      let one = laws.judges flow defs valid in
      let r = f.reads one.0 one.1 one.2 in
      let m = more one.0 one.1 one.2 (line.Pass ∷ f.rules) line.C1 r.last old new r.read r.stands f.of_flow f.of_defs applied in
      let i = ruled_by one.0 one.1 one.2 line.C1 r.last old m.next refl r.stands f.of_flow f.of_defs f.ruled m.line_read in
      let v = moved_by one.0 one.1 one.2 line.C1 r.last m.next old new r.stands m.stands i in
      let before : AreOpen flow (i.first ∷ i.others) = subst (AreOpen flow) i.open_are f.open_are in
      let stuck : IsStuck flow defs (setting_at old) i.first i.paths = i.instance in
      let gone : new.branches ≡ i.others = v.branches_are ∙ ap (λ (bs : List Path). bs ++ i.others) stuck.gives in
      let own : b ≡ i.first = first_is one.0 one.1 one.2 old b i.first i.others i.open_are current in
      let alone_there : IsInstance flow defs alone line.C1 i.first i.paths =
      subst (λ (g : Setting). IsInstance flow defs g line.C1 i.first i.paths) (judged_alone old f.form_is f.no_cuts f.no_heads) i.instance in
      record {
        form_is = v.form_is ∙ f.form_is;
        no_cuts = v.cuts_are ∙ f.no_cuts;
        no_heads = v.heads_are ∙ f.no_heads;
        open_are = subst (AreOpen flow) (sym gone) before.1;
        valid = valid;
        rules = f.rules ++ line.C1 ∷ [];
        alarms = f.alarms ++ (b, mark) ∷ [];
        told = alarm_more flow defs f.alarms (b, mark) text told f.told is;
        marked = marked_stuck flow defs f.rules old.branches tracks f.alarms b i.others i.paths new.branches gap mark after f.marked
            (i.open_are ∙ ap (λ (c : Path). c ∷ i.others) (sym own)) (subst (λ (c : Path). IsInstance flow defs alone line.C1 c i.paths) (sym own) alone_there) gone unmet turned;
        spelled = spelled_more lines (line.Pass ∷ f.rules) line.C1 f.spelled;
        of_flow = m.of_flow;
        of_defs = m.of_defs;
        ruled = still_begun one.0 one.1 one.2 m.next new m.stands i.begun_still;
        reads = λ k well judge.
            let r = f.reads k well judge in
            let m = more k well judge (line.Pass ∷ f.rules) line.C1 r.last old new r.read r.stands f.of_flow f.of_defs applied in
            let i = ruled_by k well judge line.C1 r.last old m.next refl r.stands f.of_flow f.of_defs f.ruled m.line_read in
            let own : b ≡ i.first = first_is k well judge old b i.first i.others i.open_are current in
            record {
              last = m.next;
              read = m.read;
              stands = m.stands;
              stuck_are = i.stuck_are ∙ ap₂ (λ (bs : List Path) (c : Path). bs ++ c ∷ []) r.stuck_are (sym own)
                  ∙ sym (map-append (λ (a : Alarm). a.0) f.alarms ((b, mark) ∷ []));
            };
        counted = count ∙ ap (λ (m : ℕ). m + 1) f.counted ∙ sym (ended_more lines line.C1);
        within = few;
        no_loops = f.no_loops;
        uncut = uncut_more lines line.C1 refl ∙ f.uncut;
        unheaded = unheaded_more lines line.C1 f.unheaded refl;
        in_place = placed_more_by lines line.C1 old text ended tracks (plain_stands line.C1 old.branches i.others i.first i.open_are stuck.plain) f;
      }

  -- the line that ends the 65,537th branch is the last
  pub crowds : (lines : List Line) (l : Line) (old new : Position) (text : List ℕ) (ended : ℕ) (tracks : List (Option Picks)) (n : ℕ) → is_rule l ≡ true → may_stand l old.branches ≡ true
      → IsFollowed flow defs lines old text ended tracks → IsApplied l old new → n ≡ ended + ending l → 65536 < n
      → IsCrowded flow defs (lines ++ l ∷ [])
  crowds lines l old new text ended tracks n rule may f applied count many =
      let own : ended ≡ ended_by lines = f.counted in
      let few : ended ≤ 65536 = f.within in
      let one : ending l ≤ 1 = ends_one l in
      let more_ended : ended_by (lines ++ l ∷ []) ≡ ended_by lines + ending l = ended_more lines l in
      record {
        front = record {
          behind = (line.Pass ∷ f.rules) ++ l ∷ [];
          spelled = spelled_more lines (line.Pass ∷ f.rules) l f.spelled;
          reads = λ k well judge.
              let r = f.reads k well judge in
              let m = more k well judge (line.Pass ∷ f.rules) l r.last old new r.read r.stands f.of_flow f.of_defs applied in
              let i = ruled_by k well judge l r.last old m.next rule r.stands f.of_flow f.of_defs f.ruled m.line_read in
              record { last = m.next; read = m.read; not_ended = λ e. (let clash : ruling ≡ finished = sym i.begun_still ∙ e in cc clash) };
        };
        before = lines;
        last = l;
        last_is = refl;
        before_last = omega (arith, own, few, one, count, many);
        with_last = omega (arith, own, few, one, count, many, more_ended);
        places = places_more lines l old text ended tracks (rule_uncut l rule) may f;
      }

  -- ---- the pass

  record IsPassed (next : Reading) : Type 0 where
    pub stage : next.stage ≡ ruling
    pub none : next.stuck ≡ []
    pub form_is : next.form ≡ Chain
    pub no_cuts : next.cuts ≡ []
    pub no_heads : next.heads ≡ []
    pub branches_are : next.branches ≡ roots flow []

  passed : (k : Knowledge) (well : RawState → Bool) (next : Reading) → reading_line k well flow defs line.Pass (begun Chain) ≡ Ok next → IsPassed next
  passed k well next e =
      let same : ruled (begun Chain) (roots flow []) ≡ next = need_ok 1 _ (ruled (begun Chain) (roots flow [])) next e in
      record {
        stage = sym (ap (λ (r : Reading). r.stage) same);
        none = sym (ap (λ (r : Reading). r.stuck) same);
        form_is = sym (ap (λ (r : Reading). r.form) same);
        no_cuts = sym (ap (λ (r : Reading). r.cuts) same);
        no_heads = sym (ap (λ (r : Reading). r.heads) same);
        branches_are = sym (ap (λ (r : Reading). r.branches) same);
      }

  pub starts : flow.heads ≡ [] → (old new : Position) → old ≡ position_of flow defs (begun Chain) → IsApplied line.Pass old new
      → IsFollowed flow defs (line.Header One Chain ∷ line.Pass ∷ []) new [] 0 (Some [] ∷ [])
  starts no_loops old new is applied =
      let pf : old.flow ≡ flow = ap (λ (p : Position). p.flow) is in
      let pd : old.defs ≡ defs = ap (λ (p : Position). p.defs) is in
      let stand : (k : Knowledge) (well : RawState → Bool) → IsJudge k well flow defs → Stands k well (begun Chain) old =
      λ k well judge. subst (λ (p : Position). Stands k well (begun Chain) p) (sym is) (record { judge = judge; kept = laws.begun flow defs Chain; here = refl }) in
      let one = laws.judges flow defs valid in
      let m = more one.0 one.1 one.2 [] line.Pass (begun Chain) old new refl (stand one.0 one.1 one.2) pf pd applied in
      let i = passed one.0 one.1 m.next m.line_read in
      record {
        form_is = sym (ap (λ (q : Position). q.form) m.stands.here) ∙ i.form_is;
        no_cuts = sym (ap (λ (q : Position). q.cuts) m.stands.here) ∙ i.no_cuts;
        no_heads = sym (ap (λ (q : Position). q.heads) m.stands.here) ∙ ap states_of i.no_heads;
        open_are = subst (AreOpen flow) (sym (sym (ap (λ (q : Position). q.branches) m.stands.here) ∙ i.branches_are)) ((valid.begins, refl), tt);
        valid = valid;
        rules = [];
        alarms = [];
        told = refl;
        marked = record {
          is_open = (entry_path flow, Some []) ∷ [];
          branches_are = sym (ap (λ (q : Position). q.branches) m.stands.here) ∙ i.branches_are;
          tracks_are = refl;
          tracked = entry;
        };
        spelled = refl;
        of_flow = m.of_flow;
        of_defs = m.of_defs;
        ruled = still_begun one.0 one.1 one.2 m.next new m.stands i.stage;
        reads = λ k well judge.
            let m = more k well judge [] line.Pass (begun Chain) old new refl (stand k well judge) pf pd applied in
            let i = passed k well m.next m.line_read in
            record {
              last = m.next;
              read = m.read;
              stands = m.stands;
              stuck_are = i.none;
            };
        counted = refl;
        within = omega arith;
        no_loops = no_loops;
        uncut = refl;
        unheaded = refl;
        in_place = λ k well judge. (refl, λ next read. tt);
      }

  -- it begins with the entry alone
  pub begins_with : (old new : Position) → old ≡ position_of flow defs (begun Chain) → IsApplied line.Pass old new → new.branches ≡ roots flow []
  begins_with old new is applied =
      let pf : old.flow ≡ flow = ap (λ (p : Position). p.flow) is in
      let pd : old.defs ≡ defs = ap (λ (p : Position). p.defs) is in
      let one = laws.judges flow defs valid in
      let stand : Stands one.0 one.1 (begun Chain) old =
      subst (λ (p : Position). Stands one.0 one.1 (begun Chain) p) (sym is) (record { judge = one.2; kept = laws.begun flow defs Chain; here = refl }) in
      let m = more one.0 one.1 one.2 [] line.Pass (begun Chain) old new refl stand pf pd applied in
      sym (ap (λ (q : Position). q.branches) m.stands.here) ∙ (passed one.0 one.1 m.next m.line_read).branches_are

  -- where there are no loops, it is never refused
  pub pass_is_taken : (old : Position) (premise : ℕ) → flow.heads ≡ [] → old ≡ position_of flow defs (begun Chain) → IsRefusedHere line.Pass old premise → ⊥
  pass_is_taken old premise none is refused =
      let one = laws.judges flow defs valid in
      let k = one.0 in
      let well = one.1 in
      let pf : old.flow ≡ flow = ap (λ (p : Position). p.flow) is in
      let pd : old.defs ≡ defs = ap (λ (p : Position). p.defs) is in
      let stand : Stands k well (begun Chain) old =
      subst (λ (p : Position). Stands k well (begun Chain) p) (sym is) (record { judge = one.2; kept = laws.begun flow defs Chain; here = refl }) in
      let no_line : reading_line k well flow defs line.Pass (begun Chain) ≡ Err premise =
      move (λ (f : Flow) (d : List Def). reading_line k well f d line.Pass (begun Chain) ≡ Err premise) old.flow flow old.defs defs pf pd (refused k well (begun Chain) stand) in
      let new : Reading = ruled (begun Chain) (roots flow []) in
      let yes : ◌≡◌ {A = Judged Reading} (need 1 (list_all (is_cut []) flow.heads) (Ok new)) (Ok new) =
      ap (λ (heads : List PointId). need 1 (list_all (is_cut []) heads) (Ok new)) none in
      let clash : ◌≡◌ {A = Judged Reading} (Ok new) (Err premise) = sym yes ∙ no_line in
      cc clash

  -- ---- the end

  record IsEnded (last next : Reading) : Type 0 where
    pub stage : next.stage ≡ finished
    pub same : next.stuck ≡ last.stuck

  ends_in : (last next : Reading) (stage : Stage) → stage ≡ ruling
      → ◌≡◌ {A = Judged Reading} (have 1 (ready flow last stage) (λ (t : Reading). need 3 (has_no_branch t.branches) (Ok (record t { stage = finished })))) (Ok next)
      → IsEnded last next
  ends_in last next cutting e is = absurd (cc e)
  ends_in last next heading e is = absurd (cc e)
  ends_in last next ruling e is =
      let same : record last { stage = finished } ≡ next = need_ok 3 _ (record last { stage = finished }) next is in
      record { stage = sym (ap (λ (r : Reading). r.stage) same); same = sym (ap (λ (r : Reading). r.stuck) same) }
  ends_in last next finished e is = absurd (cc e)

  pub record HasEnded (lines : List Line) (alarms : List Alarm) (new : Position) : Type 0 where
    pub chain : IsShortChain flow defs (lines ++ line.End ∷ []) (map (λ a. a.0) alarms)
    pub counted : new.stuck ≡ length alarms
    pub ended : new.stage ≡ finished

  pub ends : (lines : List Line) (old new : Position) (text : List ℕ) (ended : ℕ) (tracks : List (Option Picks)) → (f : IsFollowed flow defs lines old text ended tracks)
      → IsApplied line.End old new → HasEnded lines f.alarms new
  ends lines old new text ended tracks f applied =
      let one = laws.judges flow defs valid in
      let r = f.reads one.0 one.1 one.2 in
      let m = more one.0 one.1 one.2 (line.Pass ∷ f.rules) line.End r.last old new r.read r.stands f.of_flow f.of_defs applied in
      let i = ends_in r.last m.next r.last.stage (stage_is one.0 one.1 one.2 r.last old r.stands f.ruled) m.line_read in
      record {
        chain = subst (λ (ls : List Line). IsShortChain flow defs ls (map (λ a. a.0) f.alarms)) (sym (spelled_more lines (line.Pass ∷ f.rules) line.End f.spelled))
            ((laws.chains one.0 one.1 flow defs ((line.Pass ∷ f.rules) ++ line.End ∷ []) (map (λ a. a.0) f.alarms) valid one.2).0
            (record { last = m.next; read = m.read; ended = i.stage; stuck_are = i.same ∙ r.stuck_are }));
        counted = sym (ap (λ (q : Position). q.stuck) m.stands.here) ∙ ap (λ (bs : List Path). length bs) (i.same ∙ r.stuck_are) ∙ length-map f.alarms (λ (a : Alarm). a.0);
        ended = sym (ap (λ (q : Position). q.stage) m.stands.here) ∙ i.stage;
      }

  -- where no branch is open, it is never refused
  pub end_is_taken : (lines : List Line) (old : Position) (text : List ℕ) (ended : ℕ) (tracks : List (Option Picks)) (premise : ℕ) → IsFollowed flow defs lines old text ended tracks
      → old.branches ≡ [] → IsRefusedHere line.End old premise → ⊥
  end_is_taken lines old text ended tracks premise f none refused =
      let one = laws.judges flow defs valid in
      let k = one.0 in
      let well = one.1 in
      let r = f.reads k well one.2 in
      let last = r.last in
      let new : Reading = record last { stage = finished } in
      let no_line : reading_line k well flow defs line.End last ≡ Err premise =
      move (λ (h : Flow) (d : List Def). reading_line k well h d line.End last ≡ Err premise) old.flow flow old.defs defs f.of_flow f.of_defs (refused k well last r.stands) in
      let begun_still : reading_line k well flow defs line.End last ≡ need 3 (has_no_branch last.branches) (Ok new) =
      ap (λ (s : Stage). have 1 (ready flow last s) (λ (t : Reading). need 3 (has_no_branch t.branches) (Ok (record t { stage = finished }))))
      (stage_is k well one.2 last old r.stands f.ruled) in
      let none_open : ◌≡◌ {A = Judged Reading} (need 3 (has_no_branch last.branches) (Ok new)) (Ok new) =
      ap (λ (bs : List Path). need 3 (has_no_branch bs) (Ok new)) (ap (λ (q : Position). q.branches) r.stands.here ∙ none) in
      let clash : ◌≡◌ {A = Judged Reading} (Ok new) (Err premise) = sym (begun_still ∙ none_open) ∙ no_line in
      cc clash

-- a walk that has followed its lines may go on
pub stays_onward : (flow : Flow) (defs : List Def) (walk : Walk) → IsWalk flow defs walk → IsOnward flow defs walk
stays_onward flow defs walk f = (λ few. f, λ many. (let few : walk.ended ≤ 65536 = f.within in absurd (omega (arith, few, many))))

-- for equal lines and texts
pub same_followed : (flow : Flow) (defs : List Def) (lines own : List Line) (p : Position) (text mine : List ℕ) (ended : ℕ) (tracks : List (Option Picks)) → own ≡ lines → mine ≡ text
    → IsFollowed flow defs lines p text ended tracks → IsFollowed flow defs own p mine ended tracks
same_followed flow defs lines own p text mine ended tracks e g f =
    subst (λ (t : List ℕ). IsFollowed flow defs own p t ended tracks) (sym g) (subst (λ (ls : List Line). IsFollowed flow defs ls p text ended tracks) (sym e) f)

-- and tracks
pub same_tracks : (flow : Flow) (defs : List Def) (lines : List Line) (p : Position) (text : List ℕ) (ended : ℕ) (tracks own : List (Option Picks)) → own ≡ tracks
    → IsFollowed flow defs lines p text ended tracks → IsFollowed flow defs lines p text ended own
same_tracks flow defs lines p text ended tracks own e f = subst (λ (ts : List (Option Picks)). IsFollowed flow defs lines p text ended ts) (sym e) f

-- the same line
pub same_sure : (flow : Flow) (defs : List Def) (asked : Option Line) (l m : Line) (p : Position) → asked ≡ Some l → asked ≡ Some m → IsSure flow defs l p → IsSure flow defs m p
same_sure flow defs asked l m p e g sure = subst (λ (n : Line). IsSure flow defs n p) same sure
  where
    some : Some l ≡ Some m
    some = sym e ∙ g

    same : l ≡ m
    same = let both = some in cc

-- a goal that is there
pub goal_there : (o : Option Goal) → is_some o ≡ true → (goal : Goal) × (o ≡ Some goal)
goal_there None e = absurd (cc e)
goal_there (Some goal) e = (goal, refl)

pub no_goal : (o : Option Goal) → is_some o ≡ false → o ≡ None
no_goal None e = refl
no_goal (Some goal) e = absurd (cc e)

-- the first open branch, and the others
pub current_at : (p : Position) (c : Path) → Some c ≡ option_map (λ (d : Path × List Path). d.0) (first_branch p.branches) → (others : List Path) × (p.branches ≡ c ∷ others)
current_at p c e = by p.branches e
  where
    by : (bs : List Path) → Some c ≡ option_map (λ (d : Path × List Path). d.0) (first_branch bs) → (others : List Path) × (bs ≡ c ∷ others)
    by [] e = absurd (cc e)
    by (b ∷ bs) e = let same : c ≡ b = some_same c b e in (bs, ap (λ (d : Path). d ∷ bs) (sym same))
      where
        some_same : (c b : Path) → Some c ≡ Some b → c ≡ b
        some_same c b e = cc e

-- there is none
pub none_open : (p : Position) → ◌≡◌ {A = Option Path} None (option_map (λ (d : Path × List Path). d.0) (first_branch p.branches)) → p.branches ≡ []
none_open p e = by p.branches e
  where
    by : (bs : List Path) → ◌≡◌ {A = Option Path} None (option_map (λ (d : Path × List Path). d.0) (first_branch bs)) → bs ≡ []
    by [] e = refl
    by (b ∷ bs) e = absurd (cc e)

pub current_is : (p : Position) (c b : Path) (others : List Path) → p.branches ≡ b ∷ others → Some c ≡ option_map (λ (d : Path × List Path). d.0) (first_branch p.branches) → c ≡ b
current_is p c b others is e =
    let some : Some c ≡ Some b = e ∙ ap (λ (bs : List Path). option_map (λ (d : Path × List Path). d.0) (first_branch bs)) is in cc some

-- the first branch has no instance of a line that is refused, and is as a line that is right needs
module _ (laws : DocumentsAreFollowed) (flow : Flow) (defs : List Def) (lines : List Line) (p : Position) (text : List ℕ) (ended : ℕ) (tracks : List (Option Picks))
    (f : IsFollowed flow defs lines p text ended tracks) where
  pub refused_nowhere : (l : Line) (premise : ℕ) → is_rule l ≡ true → IsRefusedHere l p premise → IsNowhere flow defs l p
  refused_nowhere l premise rule refused b others next is i =
      let one = laws.judges flow defs f.valid in
      let k = one.0 in
      let well = one.1 in
      let r = f.reads k well one.2 in
      let last = r.last in
      let stage : last.stage ≡ ruling = ap (λ (q : Position). q.stage) r.stands.here ∙ f.ruled in
      let kept : IsKept flow defs last = move (λ (h : Flow) (d : List Def). IsKept h d last) p.flow flow p.defs defs f.of_flow f.of_defs r.stands.kept in
      let new : Reading = record last { branches = next ++ others; stuck = last.stuck ++ marked l b } in
      let at : IsReadAt flow defs l last new = record {
        begun_rules = last;
        is_ready = ap (ready flow last) stage;
        first = b;
        others = others;
        open_are = ap (λ (q : Position). q.branches) r.stands.here ∙ is;
        next = next;
        instance = subst (λ (g : Setting). IsInstance flow defs g l b next) (sym (ap setting_at r.stands.here)) i;
        gives = refl;
      } in
      let yes : reading_line k well flow defs l last ≡ Ok new =
      (laws.rules k well flow defs l last new (asked_here laws flow defs f.valid k well one.2 last stage kept) rule).1 at in
      let no_line : reading_line k well flow defs l last ≡ Err premise =
      move (λ (h : Flow) (d : List Def). reading_line k well h d l last ≡ Err premise) p.flow flow p.defs defs f.of_flow f.of_defs (refused k well last r.stands) in
      let clash : ◌≡◌ {A = Judged Reading} (Ok new) (Err premise) = sym yes ∙ no_line in
      cc clash

  module _ (b : Path) (others : List Path) (is : p.branches ≡ b ∷ others) where
    here_open : IsInside flow b × (b.closing ≡ false)
    here_open = (subst (AreOpen flow) is f.open_are).0

    -- a test that tells what is entailed at the first branch, whose state is well made
    pub record IsTold : Type 0 where
      pub know : Test
      pub tells : Tells know b.state
      pub made : IsMade flow defs b

    pub told : IsTold
    told =
        let one = laws.judges flow defs f.valid in
        let r = f.reads one.0 one.1 one.2 in
        let kept : IsKept flow defs r.last = move (λ (h : Flow) (d : List Def). IsKept h d r.last) p.flow flow p.defs defs f.of_flow f.of_defs r.stands.kept in
        let made : IsMade flow defs b =
        (subst (λ (bs : List Path). AllByRecursion (IsMade flow defs) bs) (ap (λ (q : Position). q.branches) r.stands.here ∙ is) kept.branches).0 in
        record { know = one.0.know b.state; tells = (one.2.asked b made).given.tells; made = made }

    -- where it is no side branch, an instruction's line may stand there
    may_step : IsPlain b → MayStep (setting_at p) b
    may_step plain = record {
      plain = plain;
      open_still = here_open.1;
      before_cut = inl (λ there. no_cut p.cuts f.no_cuts there);
    }
      where
        no_cut : (cuts : List PointId) → cuts ≡ [] → Contains cuts b.point → ⊥
        no_cut [] e there = let less = there.1 in absurd (omega (arith, less))
        no_cut (c ∷ cuts) e there = cc e

  -- the line that is asked for first is an instance
  pub first_is_right : (more_laws : BranchesAreFollowed) (l : Line) → IsAtFirst l p → IsSure flow defs l p
  first_is_right more_laws l at = by (more_laws.first t.know flow defs (setting_at p) b t.made (here_open b at.others at.branches_are).1 t.tells)
    where
      b : Path
      b = at.first

      t : IsTold b at.others at.branches_are
      t = told b at.others at.branches_are

      same_line : (m n : Line) → Some m ≡ Some n → m ≡ n
      same_line m n e = cc e

      by : IsRight flow defs (setting_at p) b (false_or_null t.know b.state.graph.edges) ⊎ (false_or_null t.know b.state.graph.edges ≡ None) → IsSure flow defs l p
      by (inr none) = let two : None ≡ Some l = sym none ∙ at.asked t.know t.tells in absurd (cc two)
      by (inl r) =
          let same : r.line ≡ l = same_line r.line l (sym r.is ∙ at.asked t.know t.tells) in
          let such : advances l ≡ true = subst (λ (m : Line). advances m ≡ true) same r.is_such in
          record {
            goes = goes_by_advance l such;
            may = record { advance = λ c others is plain. such; stands = plain_stands l p.branches at.others b at.branches_are at.plain };
            there = λ none. none b at.others r.next at.branches_are (subst (λ (m : Line). IsInstance flow defs (setting_at p) m b r.next) same r.instance);
          }

  -- so is the one of an instruction that is not unmet
  pub code_is_right : (more_laws : BranchesAreFollowed) (asked : Option Line) → IsAtCode p → IsMet flow defs p → IsCodeLine flow defs p asked
      → (l : Line) × (asked ≡ Some l) × IsSure flow defs l p
  code_is_right more_laws asked at met is_line =
      let b = at.first in
      let t = told b at.others at.branches_are in
      let r = more_laws.code t.know flow defs (setting_at p) b f.valid t.made (here_open b at.others at.branches_are).0 (may_step b at.others at.branches_are at.plain) t.tells
      (at.nothing_first t.know t.tells) (λ gap unmet. met b at.others gap at.branches_are unmet) in (
        r.line,
        is_line b at.others t.know at.branches_are t.tells ∙ r.is,
        record {
          goes = goes_by_advance r.line r.is_such;
          may = record { advance = λ c others is plain. r.is_such; stands = plain_stands r.line p.branches at.others b at.branches_are at.plain };
          there = λ none. none b at.others r.next at.branches_are r.instance;
        },
      )

  -- an instruction that is unmet is stuck
  pub stuck_is_right : IsAtCode p → IsNowhere flow defs line.C1 p → IsMet flow defs p
  stuck_is_right at none b others gap is unmet =
      let same : at.first ≡ b = same_first at.first b at.others others (sym at.branches_are ∙ is) in
      none b others [] is (record {
        chain = f.form_is;
        plain = subst IsPlain same at.plain;
        open_still = (here_open b others is).1;
        gap = gap;
        unmet = unmet;
        gives = refl;
      })
    where
      same_first : (b c : Path) (bs cs : List Path) → ◌≡◌ {A = List Path} (b ∷ bs) (c ∷ cs) → b ≡ c
      same_first b c bs cs e = cc e

-- where a line ends the first branch, that is gone
pub goes_away : (flow : Flow) (defs : List Def) (l : Line) (old new : Position) (t : IsTurned flow defs l old new) → t.next ≡ [] → IsFirstGone old new
goes_away flow defs l old new t none b others is =
    t.come ∙ ap (λ (bs : List Path). bs ++ t.others) none ∙ same_others t.first b t.others others (sym t.branches_are ∙ is)
  where
    same_others : (b c : Path) (bs cs : List Path) → ◌≡◌ {A = List Path} (b ∷ bs) (c ∷ cs) → bs ≡ cs
    same_others b c bs cs e = cc e

-- nothing is changed by a line that is refused
pub refused_stays : (flow : Flow) (defs : List Def) (lines : List Line) (old new : Position) (text : List ℕ) (ended : ℕ) (tracks : List (Option Picks)) → new ≡ old
    → IsFollowed flow defs lines old text ended tracks → IsFollowed flow defs lines new text ended tracks
refused_stays flow defs lines old new text ended tracks e f = subst (λ (p : Position). IsFollowed flow defs lines p text ended tracks) (sym e) f

pub whole_is : (laws : DocumentsAreFollowed) (flow : Flow) (defs : List Def) (lines : List Line) (old new : Position) (text : List ℕ) (ended : ℕ) (tracks : List (Option Picks)) (count : ℕ)
    (d : Document) → IsFollowed flow defs lines old text ended tracks → old.branches ≡ [] → IsApplied line.End old new → count ≡ new.stuck
    → d.lines.items ≡ lines ++ line.End ∷ [] → d.text.items ≡ text ++ count_line count → d.count ≡ count → IsWhole flow defs d
whole_is laws flow defs lines old new text ended tracks count d f none applied is_count is_lines is_text is_own =
    let h = ends laws flow defs f.valid lines old new text ended tracks f applied in
    let stuck : List Path = map (λ a. a.0) f.alarms in
    let counted : count ≡ length f.alarms = is_count ∙ h.counted in
    let within : ended ≤ 65536 = f.within in
    let own : ended ≡ ended_by lines = f.counted in
    let last : ended_by (lines ++ line.End ∷ []) ≡ ended_by lines + 0 = ended_more lines line.End in
    let all : ended_by d.lines.items ≡ ended_by (lines ++ line.End ∷ []) = ap ended_by is_lines in
    let chain : IsShortChain flow defs d.lines.items stuck = subst (λ (ls : List Line). IsShortChain flow defs ls stuck) (sym is_lines) h.chain in
    record {
      stuck = stuck;
      alarms = f.alarms;
      stuck_are = refl;
      chain = chain;
      marked = record {
        rules = f.rules;
        spelled = is_lines ∙ ap (λ (ls : List Line). ls ++ line.End ∷ []) f.spelled;
        ends = ended_tracks flow defs f.rules old.branches tracks f.alarms none f.marked;
      };
      report = headless_report flow defs d.lines.items stuck f.alarms chain text d.text.items
          (ap heads_of is_lines ∙ unheaded_more lines line.End f.unheaded refl) f.told (is_text ∙ ap (λ (n : ℕ). text ++ count_line n) counted);
      counted = is_own ∙ counted ∙ sym (length-map f.alarms (λ (a : Alarm). a.0));
      within = omega (arith, within, own, last, all);
      places = subst (HasPlaces flow defs Chain) (sym is_lines) (places_more laws flow defs f.valid lines line.End old text ended tracks refl (ap (may_stand line.End) none) f);
    }
