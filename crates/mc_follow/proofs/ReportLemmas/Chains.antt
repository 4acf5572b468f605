-- Chains that are read for their reports.
use Rattle.std.proofs.Common.{◌≡◌, ◌≢◌, ◌++◌, ◌∷◌, ◌∙◌, ◌+◌, ◌-◌, ◌<◌, ◌≤◌, ℕ, List, [], Bool, true, false, Option, Some, None, map, refl, sym, ap, subst, length, drop, take, get_or, append_assoc, length-drop, arith}
use Rattle.std.specs.Prelude.{Err, IfOk, IfSome, Ok, Result}
use Rattle.std.proofs.lemmas.List.{append-nil, length-map, map-append, take_all}
use Rattle.mc_lines.specs.declared.cert.line.Line.{Line}
use Rattle.mc_lines.specs.declared.cert.line.Line.TheVariants as line
use Rattle.mc_flow.specs.declared.defs.rules.Def.{Def}
use Rattle.mc_flow.specs.declared.graph.Flow.{Flow}
use Rattle.mc_flow.specs.Valid.{IsValid}
use Rattle.mc_state.proofs.Numbered.{have_ok, need_ok}
use Rattle.mc_state.specs.Premises.{Judged}
use Rattle.mc_state.specs.declared.line.Form.TheVariants.{Chain}
use Rattle.mc_state.specs.declared.line.Version.TheVariants.{One}
use Rattle.mc_state.specs.declared.raw_state.RawState.{RawState}
use Rattle.mc_state_io.specs.Text.Text.{Text}
use Rattle.mc_rules_steps.specs.declared.gap.Gap.{Gap}
use Rattle.mc_rules_steps.specs.Unmet.{IsUnmet}
use Rattle.mc_kernel.specs.Branches.{Path}
use Rattle.mc_kernel.specs.Certificates.{WrittenHead}
use Rattle.mc_kernel.specs.Instances.{IsStuck}
use Rattle.mc_kernel.specs.Judges.{Knowledge}
use Rattle.mc_kernel.specs.Readings.{Reading, Stage, begun, cutting, finished, has_no_branch, heading, ready, reading_line, rooted, ruling}
use Rattle.mc_kernel.specs.Reading.Documents.{Ends, IsJudge, IsShortChain, is_rule}
use Rattle.mc_kernel.specs.Reading.Laws.{ReadIsNotRefused}
use Rattle.mc_kernel.proofs.ReadingLemmas.Rules.{same_reading}
use Rattle.mc_document.specs.Places.{AreInPlace, FitsSides, may_stand}
use Rattle.mc_document.specs.Proof.Lines.{setting_at}
use Rattle.mc_document.specs.Proof.Positions.{IsApplied, IsRefusedHere, Position, Stands, position_of}
use Rattle.mc_document.proofs.CertifiedLemmas.Reading.{none_behind, rest_at}
use Rattle.mc_document.proofs.PlacesLemmas.{placed_more, placed_there}
use Rattle.mc_follow.specs.declared.report.chains.ChainReport.{ChainReport}
use Rattle.mc_follow.specs.declared.report.chains.Draft.{Draft}
use Rattle.mc_exact.specs.Marks.{Alarm, unmarked}
use Rattle.mc_follow.specs.Alarms.Laws.{DocumentsAreFollowed}
use Rattle.mc_follow.specs.Report.Chains.{AddsAlarm, IsDraft, IsNoChain, IsReportOf}
use Rattle.mc_follow.specs.Report.Heads.{AreWellFormed, AreWritten, head_in, heads_of}
use Rattle.mc_follow.specs.Report.Report.{AreAlarmLines, AreHeadLines, IsAlarmLine, count_line}
use Rattle.mc_follow.proofs.AlarmsLemmas.Followed.{alarm_more, more, move, ruled_by}
use Rattle.mc_follow.proofs.ReportLemmas.Written.{chain_heads, heads_more}

-- ---- where a chain reads lines of rules

ok_is : (r next : Reading) → ◌≡◌ {A = Judged Reading} (Ok r) (Ok next) → r ≡ next
ok_is r next e = cc e

ready_stage : (flow : Flow) (r t : Reading) (stage : Stage) → r.form ≡ Chain → ready flow r stage ≡ Some t → stage ≡ ruling
ready_stage flow r t cutting chain e = let none : None ≡ Some t = sym (ap (rooted flow r) chain) ∙ e in absurd (cc none)
ready_stage flow r t heading chain e = let none : None ≡ Some t = sym (ap (rooted flow r) chain) ∙ e in absurd (cc none)
ready_stage flow r t ruling chain e = refl
ready_stage flow r t finished chain e = absurd (cc e)

ready_same : (flow : Flow) (r t : Reading) → r.form ≡ Chain → ready flow r r.stage ≡ Some t → r ≡ t
ready_same flow r t chain e =
    let both : Some r ≡ Some t = subst (λ (s : Stage). ready flow r s ≡ Some t) (ready_stage flow r t r.stage chain e) e in cc both

-- the same lines after equal headers
same_after : (lines own : List Line) → ◌≡◌ {A = List Line} (line.Header One Chain ∷ lines) (line.Header One Chain ∷ own) → own ≡ lines
same_after lines own e = cc e

-- the first line of a chain is its header
pub no_header : (flow : Flow) (defs : List Def) (l : Line) (lines : List Line) → l ≢ line.Header One Chain → IsNoChain flow defs (l ∷ lines)
no_header flow defs l lines other stuck chain = other (first_is l lines _ chain.0.spelled)
  where
    first_is : (l : Line) (lines own : List Line) → ◌≡◌ {A = List Line} (l ∷ lines) (line.Header One Chain ∷ own) → l ≡ line.Header One Chain
    first_is l lines own e = cc e

pub no_lines : (flow : Flow) (defs : List Def) → IsNoChain flow defs []
no_lines flow defs stuck chain = none _ chain.0.spelled
  where
    none : (own : List Line) → ◌≡◌ {A = List Line} [] (line.Header One Chain ∷ own) → ⊥
    none own e = cc e

-- what holds of a report that is found
pub on_some : {X E : Type 0} (P Q : X → Type 0) (r : Result (Option X) E) → ((x : X) → P x → Q x) → IfOk r (λ found. IfSome found P)
    → IfOk r (λ found. IfSome found Q)
on_some P Q (Ok (Some x)) go p = go x p
on_some P Q (Ok None) go p = p
on_some P Q (Err e) go p = p

-- ---- the line of the first branch

module _ (flow : Flow) (defs : List Def) where
  pub alarm_told : (b : Path) (gap : Gap) (old new : Text) (found : Option Gap) → old ≡ []
      → IfSome found (λ other. IsUnmet flow defs b.point b.state other × ((own : Text) × IsAlarmLine flow defs b.point b.state own × (new ≡ old ++ own)))
      → (found ≡ None → (new ≡ old) × ((gap : Gap) → IsUnmet flow defs b.point b.state gap → ⊥))
      → IsUnmet flow defs b.point b.state gap → IsAlarmLine flow defs b.point b.state new
  alarm_told b gap old new (Some other) none lacks met unmet =
      let own = lacks.1 in
      subst (λ (t : Text). IsAlarmLine flow defs b.point b.state t) (sym (own.2 ∙ ap (λ (t : Text). t ++ own.0) none)) own.1
  alarm_told b gap old new None none lacks met unmet = absurd ((met refl).1 gap unmet)

  pub other_adds : (p : Position) (l : Line) (text : Text) → l ≢ line.C1 → text ≡ [] → AddsAlarm flow defs p l text
  other_adds p line.C1 text other none = absurd (other refl)
  other_adds p l text other none = none

-- the line of a stuck branch more after those of others, none of them marked
unmarked_more : (flow : Flow) (defs : List Def) (stuck : List Path) (b : Path) (text line : Text) → AreAlarmLines flow defs (map unmarked stuck) text
    → IsAlarmLine flow defs b.point b.state line → AreAlarmLines flow defs (map unmarked (stuck ++ b ∷ [])) (text ++ line)
unmarked_more flow defs stuck b text line own is =
    subst (λ (as' : List Alarm). AreAlarmLines flow defs as' (text ++ line)) (sym (map-append unmarked stuck (b ∷ [])))
    (subst (λ (l : Text). AreAlarmLines flow defs (map unmarked stuck ++ unmarked b ∷ []) (text ++ l)) (append-nil line) (alarm_more flow defs (map unmarked stuck) (unmarked b) text line own is))

module _ (laws : DocumentsAreFollowed) (flow : Flow) (defs : List Def) (valid : IsValid flow defs) where
  -- ---- one line more

  module _ (k : Knowledge) (well : RawState → Bool) (judge : IsJudge k well flow defs) where
    -- the line of a rule is read where rule lines are
    rule_begun : (l : Line) (last next : Reading) → is_rule l ≡ true → last.form ≡ Chain → reading_line k well flow defs l last ≡ Ok next → last.stage ≡ ruling
    rule_begun (line.Header version form) last next rule chain e = absurd (cc rule)
    rule_begun (line.Cut p) last next rule chain e = absurd (cc rule)
    rule_begun (line.Head p raw) last next rule chain e = absurd (cc rule)
    rule_begun line.Pass last next rule chain e = absurd (cc rule)
    rule_begun line.End last next rule chain e = absurd (cc rule)
    rule_begun l last next rule chain e =
        let one = have_ok 1 (ready flow last last.stage) _ next e in
        ready_stage flow last one.0 last.stage chain one.1

    -- another line sticks no branch
    record IsStill (last next : Reading) : Type 0 where
      pub form : next.form ≡ last.form
      pub stuck : next.stuck ≡ last.stuck

    still_by : (last new next : Reading) → ◌≡◌ {A = Judged Reading} (Ok new) (Ok next) → new.form ≡ last.form → new.stuck ≡ last.stuck → IsStill last next
    still_by last new next e form stuck =
        let same : next ≡ new = sym (ok_is new next e) in
        record { form = ap (λ (r : Reading). r.form) same ∙ form; stuck = ap (λ (r : Reading). r.stuck) same ∙ stuck }

    stays_still : (l : Line) (last next : Reading) → is_rule l ≡ false → last.form ≡ Chain → reading_line k well flow defs l last ≡ Ok next → IsStill last next
    stays_still (line.Header version form) last next no_rule chain e = absurd (cc e)
    stays_still (line.Cut p) last next no_rule chain e =
        let one = need_ok 1 _ _ next e in
        let three = need_ok 3 _ _ next one.1 in
        let four = need_ok 4 _ _ next three.1 in
        still_by last _ next four.1 refl refl
    stays_still (line.Head p raw) last next no_rule chain e =
        let one = need_ok 1 _ _ next e in
        let three = need_ok 3 _ _ next one.1 in
        let four = need_ok 4 (well raw) _ next three.1 in
        still_by last _ next four.1 refl refl
    stays_still line.Pass last next no_rule chain e =
        let one = need_ok 1 _ _ next e in
        let three = need_ok 3 _ _ next one.1 in
        still_by last _ next three.1 refl refl
    stays_still line.End last next no_rule chain e =
        let one = have_ok 1 (ready flow last last.stage) _ next e in
        let same : one.0 ≡ last = sym (ready_same flow last one.0 chain one.1) in
        let three = need_ok 3 (has_no_branch one.0.branches) _ next one.2 in
        still_by last (record one.0 { stage = finished }) next three.1 (ap (λ (r : Reading). r.form) same) (ap (λ (r : Reading). r.stuck) same)
    stays_still l last next no_rule chain e = absurd (cc no_rule)

    -- what it adds to the lines of the stuck branches
    record IsTold (last next : Reading) (text alarm : Text) : Type 0 where
      pub form : next.form ≡ last.form
      pub alarms : AreAlarmLines flow defs (map unmarked next.stuck) (text ++ alarm)

    told_still : (last next : Reading) (text alarm : Text) → IsStill last next → alarm ≡ [] → AreAlarmLines flow defs (map unmarked last.stuck) text → IsTold last next text alarm
    told_still last next text alarm still none own = record {
      form = still.form;
      alarms = subst (λ (t : Text). AreAlarmLines flow defs (map unmarked next.stuck) t) (sym (ap (λ (t : Text). text ++ t) none ∙ append-nil text))
          (subst (λ (bs : List Path). AreAlarmLines flow defs (map unmarked bs) text) (sym still.stuck) own);
    }

    module _ (last next : Reading) (old : Position) (text alarm : Text) (stands : Stands k well last old) (of_flow : old.flow ≡ flow) (of_defs : old.defs ≡ defs)
        (form_is : old.form ≡ Chain) where
      chain_here : last.form ≡ Chain
      chain_here = ap (λ (q : Position). q.form) stands.here ∙ form_is

      begun_here : (l : Line) → is_rule l ≡ true → reading_line k well flow defs l last ≡ Ok next → old.stage ≡ ruling
      begun_here l rule e = sym (ap (λ (q : Position). q.stage) stands.here) ∙ rule_begun l last next rule chain_here e

      told_by : (l : Line) → reading_line k well flow defs l last ≡ Ok next → AddsAlarm flow defs old l alarm → AreAlarmLines flow defs (map unmarked last.stuck) text
          → IsTold last next text alarm
      told_by (line.Header version form) e adds own = told_still last next text alarm (stays_still (line.Header version form) last next refl chain_here e) adds own
      told_by (line.Cut p) e adds own = told_still last next text alarm (stays_still (line.Cut p) last next refl chain_here e) adds own
      told_by (line.Head p raw) e adds own = told_still last next text alarm (stays_still (line.Head p raw) last next refl chain_here e) adds own
      told_by line.Pass e adds own = told_still last next text alarm (stays_still line.Pass last next refl chain_here e) adds own
      told_by line.End e adds own = told_still last next text alarm (stays_still line.End last next refl chain_here e) adds own
      told_by line.C1 e adds own =
          let i = ruled_by laws flow defs valid k well judge line.C1 last old next refl stands of_flow of_defs (begun_here line.C1 refl e) e in
          let stuck : IsStuck flow defs (setting_at old) i.first i.paths = i.instance in
          record {
            form = i.same_form;
            alarms = subst (λ (bs : List Path). AreAlarmLines flow defs (map unmarked bs) (text ++ alarm)) (sym i.stuck_are)
                (unmarked_more flow defs last.stuck i.first text alarm own (adds i.first i.others stuck.gap i.open_are stuck.unmet));
          }
      told_by l e adds own =
          let i = ruled_by laws flow defs valid k well judge l last old next refl stands of_flow of_defs (begun_here l refl e) e in
          told_still last next text alarm (record { form = i.same_form; stuck = i.stuck_are ∙ append-nil last.stuck }) adds own

    -- the head that it writes is well formed
    formed_by : (l : Line) (last next : Reading) → reading_line k well flow defs l last ≡ Ok next → AreWellFormed flow defs (head_in l)
    formed_by (line.Head p raw) last next e =
        let one = need_ok 1 _ _ next e in
        let three = need_ok 3 _ _ next one.1 in
        let four = need_ok 4 (well raw) _ next three.1 in
        ((judge.formed raw).0 four.0, tt)
    formed_by l last next e = tt

  -- ---- drafts

  pub begun_draft : (d : Draft) → d.proof ≡ position_of flow defs (begun Chain) → d.points.items ≡ [] → d.heads.items ≡ [] → d.alarms.items ≡ []
      → IsDraft flow defs [] d
  begun_draft d is points heads alarms = record {
    of_flow = ap (λ (p : Position). p.flow) is;
    of_defs = ap (λ (p : Position). p.defs) is;
    form_is = ap (λ (p : Position). p.form) is;
    reads = λ k well judge. record {
      last = begun Chain;
      read = refl;
      stands = subst (λ (p : Position). Stands k well (begun Chain) p) (sym is) (record { judge = judge; kept = laws.begun flow defs Chain; here = refl });
      alarms = alarms;
    };
    in_place = λ k well judge. tt;
    written = record { points_are = points; lines_are = heads };
  }

  -- the head of a line that is applied is well formed
  pub applied_formed : (lines : List Line) (l : Line) (old : Draft) (new : Position) → IsApplied l old.proof new → IsDraft flow defs lines old
      → AreWellFormed flow defs (head_in l)
  applied_formed lines l old new applied i =
      let one = laws.judges flow defs valid in
      let r = i.reads one.0 one.1 one.2 in
      let m = more laws flow defs valid one.0 one.1 one.2 lines l r.last old.proof new r.read r.stands i.of_flow i.of_defs applied in
      formed_by one.0 one.1 one.2 l r.last m.next m.line_read

  -- and so the draft goes on
  pub applied_draft : (lines : List Line) (l : Line) (old new : Draft) (alarm : Text) → may_stand l old.proof.branches ≡ true → IsApplied l old.proof new.proof
      → AddsAlarm flow defs old.proof l alarm → new.alarms.items ≡ old.alarms.items ++ alarm
      → ((heads : List WrittenHead) → AreWritten flow defs heads old.points.items old.heads.items
      → AreWritten flow defs (heads ++ head_in l) new.points.items new.heads.items)
      → IsDraft flow defs lines old → IsDraft flow defs (lines ++ l ∷ []) new
  applied_draft lines l old new alarm may applied adds alarms written i =
      let one = laws.judges flow defs valid in
      let r = i.reads one.0 one.1 one.2 in
      let m = more laws flow defs valid one.0 one.1 one.2 lines l r.last old.proof new.proof r.read r.stands i.of_flow i.of_defs applied in
      let t = told_by one.0 one.1 one.2 r.last m.next old.proof old.alarms.items alarm r.stands i.of_flow i.of_defs i.form_is l m.line_read adds r.alarms in
      let all : heads_of lines ++ head_in l ≡ heads_of (lines ++ l ∷ []) =
      sym (heads_more lines (l ∷ []) ∙ ap (λ (hs : List WrittenHead). heads_of lines ++ hs) (append-nil (head_in l))) in
      record {
        of_flow = m.of_flow;
        of_defs = m.of_defs;
        form_is = sym (ap (λ (q : Position). q.form) m.stands.here) ∙ t.form ∙ ap (λ (q : Position). q.form) r.stands.here ∙ i.form_is;
        reads = λ k well judge.
            let r = i.reads k well judge in
            let m = more laws flow defs valid k well judge lines l r.last old.proof new.proof r.read r.stands i.of_flow i.of_defs applied in
            let t = told_by k well judge r.last m.next old.proof old.alarms.items alarm r.stands i.of_flow i.of_defs i.form_is l m.line_read adds r.alarms in
            record {
              last = m.next;
              read = m.read;
              stands = m.stands;
              alarms = subst (λ (text : Text). AreAlarmLines flow defs (map unmarked m.next.stuck) text) (sym alarms) t.alarms;
            };
        in_place = λ k well judge.
            let r = i.reads k well judge in
            placed_more k well flow defs 2 lines l (begun Chain) r.last r.read (i.in_place k well judge)
            (ap (λ (q : Position). may_stand l q.branches) r.stands.here ∙ may);
        written = subst (λ (hs : List WrittenHead). AreWritten flow defs hs new.points.items new.heads.items) all (written (heads_of lines) i.written);
      }

  -- a line that is refused stands in no chain
  pub refused_is_none : ReadIsNotRefused → (lines later : List Line) (l : Line) (d : Draft) (premise : ℕ) → IsRefusedHere l d.proof premise → IsDraft flow defs lines d
      → IsNoChain flow defs (line.Header One Chain ∷ (lines ++ l ∷ later))
  refused_is_none apart lines later l d premise refused i stuck chain =
      let one = laws.judges flow defs valid in
      let k = one.0 in
      let well = one.1 in
      let r = i.reads k well one.2 in
      let ends = (laws.chains k well flow defs (lines ++ l ∷ later) stuck valid one.2).1 chain.0 in
      apart k well flow defs Chain (lines ++ l ∷ later) ends.last (2 + length lines) premise ends.read (record {
        before = lines;
        line = l;
        later = later;
        spelled = refl;
        numbered = refl;
        reading = r.last;
        read = r.read;
        unmet = move (λ (f : Flow) (e : List Def). reading_line k well f e l r.last ≡ Err premise) d.proof.flow flow d.proof.defs defs i.of_flow i.of_defs
            (refused k well r.last r.stands);
      })

  -- nor does one that may not stand where it is
  pub misplaced_is_none : (lines later : List Line) (l : Line) (d : Draft) → may_stand l d.proof.branches ≡ false → IsDraft flow defs lines d
      → IsNoChain flow defs (line.Header One Chain ∷ (lines ++ l ∷ later))
  misplaced_is_none lines later l d misplaced i stuck chain =
      let one = laws.judges flow defs valid in
      let k = one.0 in
      let well = one.1 in
      let r = i.reads k well one.2 in
      let all = lines ++ l ∷ later in
      let sides : FitsSides flow defs Chain (line.Header One Chain ∷ all) = chain.1 in
      let placed : AreInPlace k well flow defs all (begun Chain) =
      subst (λ (ls : List Line). AreInPlace k well flow defs ls (begun Chain)) (same_after all sides.behind sides.spelled) (sides.in_place k well one.2) in
      let may : may_stand l r.last.branches ≡ true = placed_there k well flow defs 2 lines later l (begun Chain) r.last r.read placed in
      let here : may_stand l r.last.branches ≡ may_stand l d.proof.branches = ap (λ (q : Position). may_stand l q.branches) r.stands.here in
      let clash : false ≡ true = sym misplaced ∙ sym here ∙ may in
      cc clash

  -- ---- the end

  pub ended_report : (lines : List Line) (d : Draft) (report : ChainReport) → d.proof.stage ≡ finished → report.count ≡ d.proof.stuck
      → report.text.items ≡ (d.heads.items ++ d.alarms.items) ++ count_line report.count → IsDraft flow defs lines d
      → IsReportOf flow defs (line.Header One Chain ∷ lines) report
  ended_report lines d report e count text i =
      let one = laws.judges flow defs valid in
      let r = i.reads one.0 one.1 one.2 in
      let ended : r.last.stage ≡ finished = ap (λ (q : Position). q.stage) r.stands.here ∙ e in
      let ends : Ends one.0 one.1 flow defs Chain lines r.last.stuck = record { last = r.last; read = r.read; ended = ended; stuck_are = refl } in
      let chain : IsShortChain flow defs (line.Header One Chain ∷ lines) r.last.stuck = (laws.chains one.0 one.1 flow defs lines r.last.stuck valid one.2).0 ends in
      let heads : heads_of lines ≡ chain.heads = chain_heads flow defs (line.Header One Chain ∷ lines) r.last.stuck chain in
      let counted : report.count ≡ length r.last.stuck = count ∙ sym (ap (λ (q : Position). q.stuck) r.stands.here) in
      record {
        stuck = r.last.stuck;
        chain = chain;
        sides = record { behind = lines; spelled = refl; in_place = i.in_place };
        text = (
          d.heads.items,
          d.alarms.items,
          subst (λ (hs : List WrittenHead). AreHeadLines flow defs [] hs d.heads.items) heads i.written.lines_are,
          r.alarms,
          text ∙ append_assoc d.heads.items d.alarms.items (count_line report.count)
              ∙ ap (λ (n : ℕ). d.heads.items ++ (d.alarms.items ++ count_line n)) (counted ∙ sym (length-map r.last.stuck unmarked)),
        );
        counted = counted;
      }

  pub unended_is_none : (lines : List Line) (d : Draft) → (d.proof.stage ≡ finished → ⊥) → IsDraft flow defs lines d
      → IsNoChain flow defs (line.Header One Chain ∷ lines)
  unended_is_none lines d still i stuck chain =
      let one = laws.judges flow defs valid in
      let r = i.reads one.0 one.1 one.2 in
      let ends = (laws.chains one.0 one.1 flow defs lines stuck valid one.2).1 chain.0 in
      let same : ends.last ≡ r.last = same_reading ends.last r.last (sym ends.read ∙ r.read) in
      still (sym (ap (λ (q : Position). q.stage) r.stands.here) ∙ ap (λ (s : Reading). s.stage) (sym same) ∙ ends.ended)

-- ---- lines up to a place

-- the first line, and the others
pub first_rest : (lines : List Line) (l : Line) → 0 < length lines → l ≡ get_or lines 0 l → lines ≡ l ∷ take (length lines - 1) (drop 1 lines)
first_rest lines l within is =
    let left : length (drop 1 lines) ≡ length lines - 1 = length-drop 1 lines in
    rest_at lines 0 l within is ∙ ap (λ (ls : List Line). l ∷ ls) (sym (take_all (length lines - 1) (drop 1 lines) (omega (arith, left))))

-- the lines up to the rest are read
pub record IsDraftUpTo (flow : Flow) (defs : List Def) (lines rest : List Line) (d : Draft) : Type 0 where
  pub before : List Line
  pub are : lines ≡ before ++ rest
  pub draft : IsDraft flow defs before d

module _ (flow : Flow) (defs : List Def) (lines : List Line) where
  pub starts_draft : (d : Draft) → IsDraft flow defs [] d → IsDraftUpTo flow defs lines lines d
  starts_draft d i = record { before = []; are = refl; draft = i }

  module _ (place : ℕ) (l : Line) (old : Draft) (within : place < length lines) (is : l ≡ get_or lines place l) (i : IsDraftUpTo flow defs lines (drop place lines) old) where
    spelled_here : lines ≡ i.before ++ l ∷ drop (place + 1) lines
    spelled_here = i.are ∙ ap (λ (ls : List Line). i.before ++ ls) (rest_at lines place l within is)

    pub next_draft : (new : Draft) → ((before : List Line) → IsDraft flow defs before old → IsDraft flow defs (before ++ l ∷ []) new)
        → IsDraftUpTo flow defs lines (drop (place + 1) lines) new
    next_draft new goes = record {
      before = i.before ++ l ∷ [];
      are = spelled_here ∙ sym (append_assoc i.before (l ∷ []) (drop (place + 1) lines));
      draft = goes i.before i.draft;
    }

    pub none_from : ((before later : List Line) → IsDraft flow defs before old → IsNoChain flow defs (line.Header One Chain ∷ (before ++ l ∷ later)))
        → IsNoChain flow defs (line.Header One Chain ∷ lines)
    none_from none =
        subst (λ (ls : List Line). IsNoChain flow defs (line.Header One Chain ∷ ls)) (sym spelled_here) (none i.before (drop (place + 1) lines) i.draft)

  -- all lines are read
  pub all_drafted : (place : ℕ) (d : Draft) → length lines ≤ place → IsDraftUpTo flow defs lines (drop place lines) d → IsDraft flow defs lines d
  all_drafted place d past i =
      subst (λ (ls : List Line). IsDraft flow defs ls d)
      (sym (i.are ∙ ap (λ (ls : List Line). i.before ++ ls) (none_behind lines place past) ∙ append-nil i.before)) i.draft
