-- Whole chains, read to their ends, and what is said of them.
use Rattle.std.proofs.Common.{◌≡◌, ◌<◌, ℕ, suc, List, [], ◌∷◌, ◌++◌, Bool, true, false, length, map, refl, ap, sym, ◌∙◌, zero-add, arith}
use Rattle.std.specs.Prelude.{Result, Ok, Err, if◌then◌else◌}
use Rattle.mc_base.specs.declared.ids.PointId.{PointId}
use Rattle.mc_lines.specs.declared.cert.line.Line.{Line}
use Rattle.mc_lines.specs.declared.cert.line.Line.TheVariants as line
use Rattle.mc_flow.specs.declared.defs.rules.Def.{Def}
use Rattle.mc_flow.specs.declared.graph.Flow.{Flow}
use Rattle.mc_flow.specs.Valid.{IsValid}
use Rattle.mc_state.specs.declared.line.Form.TheVariants.{Chain}
use Rattle.mc_state.specs.declared.line.Version.TheVariants.{One}
use Rattle.mc_kernel.specs.Branches.{Path}
use Rattle.mc_kernel.specs.Certificates.{WrittenHead, states_of}
use Rattle.mc_kernel.proofs.ReadingLemmas.Front.{head_line}
use Rattle.mc_kernel.proofs.ReadingLemmas.Lists.{all_contained, append_twice, each_contained, full_from_heads, heads_from_full}
use Rattle.mc_joins.specs.Chains.Chains.{IsLegalChain, ReadsPasses, changes_some, last_pass}
use Rattle.mc_joins.specs.Chains.Judges.{Lore, Reading, Stage, Verdict, alarms, basis, begun_chain, cutting, ends_early, finished, heading, no_alarm}
use Rattle.mc_joins.specs.Chains.Judges.{passing, reading_chain, reading_line, unfinished, verdict_at, verdict_by, verdict_of}
use Rattle.mc_joins.specs.Chains.Laws.{IsRight}
use Rattle.mc_joins.specs.Chains.Read.{EndsAs, IsSaid, at_end}
use Rattle.mc_joins.specs.Chains.ReadLaws.{AlarmsAreSaid, LegalChainsAreRead, NoAlarmIsSaid, OpenIsSaid, RefusedIsNeverLegal, UnfinishedIsSaid}
use Rattle.mc_joins.proofs.ChainsLemmas.Final.{good_heads}
use Rattle.mc_joins.proofs.ChainsLemmas.InOrder.{refused_before}
use Rattle.mc_joins.proofs.ChainsLemmas.ReadFront.{IsPoint, front_from, front_to}
use Rattle.mc_joins.proofs.ChainsLemmas.ReadLines.{Laws}
use Rattle.mc_joins.proofs.ChainsLemmas.ReadPasses.{ended_at, opened_kept, passes_of, passes_to, rest_from, spelled_passes}

-- how the lines of a chain are spelled
spelled : (lines rest ending : List Line) (rules : List Line) (passes : List (List Line)) (cuts some : List PointId) (written more : List WrittenHead)
    → lines ≡ map line.Cut some ++ rest → cuts ≡ some → rest ≡ map head_line more ++ (line.Pass ∷ ending) → written ≡ more
    → ending ≡ rules ++ (spelled_passes passes ++ line.End ∷ [])
    → lines ≡ map line.Cut cuts ++ (map head_line written ++ (spelled_passes (rules ∷ passes) ++ line.End ∷ []))
spelled lines rest ending rules passes cuts some written more a b c d e =
    let whole : ending ≡ (rules ++ spelled_passes passes) ++ line.End ∷ [] = e ∙ sym (append_twice rules (spelled_passes passes) (line.End ∷ [])) in
    cc (a, b, c, d, whole)

module _ (laws : Laws) (k : Lore) (flow : Flow) (defs : List Def) (right : IsRight k flow defs) (valid : IsValid flow defs) (lines : List Line) where
  abbrev whole_chain : Type 0
  whole_chain = IsLegalChain k.lines.know flow defs (line.Header One Chain ∷ lines)

  legal_from : (last : Reading) → EndsAs k flow defs lines last → (c : whole_chain) × (last ≡ at_end c)
  legal_from last ends =
      let c = front_from k flow defs right.formed 2 lines [] last tt tt ends.read ends.ended in
      let h = c.heads in
      let heads = states_of h.all in
      let r = rest_from laws k flow defs right valid c.all h.number h.rest heads 1 _ [] false last
      (opened_kept laws k flow defs right valid c.all heads 1 (good_heads c.all flow defs h.all h.fit)) h.read ends.ended in
      let p = passes_of laws k flow defs right valid c.all h.rest heads 0 last r in
      let written = spelled lines c.rest h.rest r.rules r.passes c.all c.more h.all h.more c.spelled c.all_are h.spelled h.all_are r.spelled in (
        record {
          cuts = c.all;
          written = h.all;
          passes = r.rules ∷ r.passes;
          spelled = ap (λ (ls : List Line). line.Header One Chain ∷ ls) written;
          cuts_are = record { ascend = c.ascend; skips = each_contained (IsPoint flow) c.all c.skips; all_heads = heads_from_full flow c.all c.full };
          ordered = h.ordered;
          written_are = h.fit;
          stuck = p.stuck;
          heads = p.after;
          reads = p.reads;
        },
        p.ends ∙ ap (λ (n : ℕ). ended_at c.all p.after n p.stuck (changes_some (last_pass (r.rules ∷ r.passes)))) (zero-add (length (r.rules ∷ r.passes))),
      )

  legal_to : (c : whole_chain) → reading_chain k flow defs lines ≡ Ok (at_end c)
  legal_to c = at c.passes c.spelled c.reads
    where
      at : (passes : List (List Line))
          → ◌≡◌ {A = List Line} (line.Header One Chain ∷ lines)
          (line.Header One Chain ∷ (map line.Cut c.cuts ++ (map head_line c.written ++ (spelled_passes passes ++ line.End ∷ []))))
          → ReadsPasses flow (basis k defs) c.cuts 1 passes c.stuck (states_of c.written) c.heads
          → reading_chain k flow defs lines ≡ Ok (ended_at c.cuts c.heads (length passes) c.stuck (changes_some (last_pass passes)))
      at [] written reads = absurd reads
      at (rules ∷ passes) written reads =
          let ending : List Line = rules ++ (spelled_passes passes ++ line.End ∷ []) in
          let same : (rules ++ spelled_passes passes) ++ line.End ∷ [] ≡ ending = append_twice rules (spelled_passes passes) (line.End ∷ []) in
          let is : lines ≡ map line.Cut c.cuts ++ (map head_line c.written ++ (line.Pass ∷ ending)) = cc (written, same) in
          let front = front_to k flow defs right.formed c.cuts c.written ending c.cuts_are.ascend (all_contained (IsPoint flow) c.cuts c.cuts_are.skips)
          (full_from_heads flow c.cuts c.cuts_are.all_heads) c.ordered c.written_are in
          ap (λ (ls : List Line). reading_chain k flow defs ls) is
          ∙ front.1
          ∙ passes_to laws k flow defs right valid c.cuts front.0 rules passes (states_of c.written) c.heads 0 c.stuck
          (good_heads c.cuts flow defs c.written c.written_are) reads
          ∙ ap (λ (n : ℕ). let r : Result Reading (ℕ × ℕ) = Ok (ended_at c.cuts c.heads n c.stuck (changes_some (last_pass (rules ∷ passes)))) in r)
          (zero-add (length (rules ∷ passes)))

  legal_ends : (last : Reading) → ((c : whole_chain) × (last ≡ at_end c)) → EndsAs k flow defs lines last
  legal_ends last (c, is) =
      record { read = legal_to c ∙ ap (λ (r : Reading). let x : Result Reading (ℕ × ℕ) = Ok r in x) (sym is); ended = ap (λ (r : Reading). r.stage) is }

  -- ---- what is said

  -- at the end of a chain that has ended
  ended_verdict : (last : Reading) (stage : Stage) (v : Verdict) → (v ≡ ends_early → ⊥) → last.stage ≡ stage → verdict_at stage last ≡ v → last.stage ≡ finished
  ended_verdict last finished v late is e = is
  ended_verdict last cutting v late is e = absurd (late (sym e))
  ended_verdict last heading v late is e = absurd (late (sym e))
  ended_verdict last passing v late is e = absurd (late (sym e))

  -- a legal chain of which something is said, once it is read
  said_from : (v : Verdict) → (v ≡ ends_early → ⊥) → IsSaid k flow defs lines v → (c : whole_chain) × (verdict_of (at_end c) ≡ v)
  said_from v late s =
      let ends : EndsAs k flow defs lines s.last = record { read = s.read; ended = ended_verdict s.last s.last.stage v late refl s.says } in
      let c = legal_from s.last ends in
      (c.0, ap verdict_of (sym c.1) ∙ s.says)

  said_to : (v : Verdict) (c : whole_chain) → verdict_of (at_end c) ≡ v → IsSaid k flow defs lines v
  said_to v c e = record { last = at_end c; read = legal_to c; says = e }

  alarms_from : (n : ℕ) (changed : Bool) (stuck : List Path) → (if changed then unfinished else verdict_by stuck) ≡ alarms n → (changed ≡ false)
      × (length stuck ≡ n) × (0 < n)
  alarms_from n true stuck e = absurd (cc e)
  alarms_from n false [] e = absurd (cc e)
  alarms_from n false (b ∷ bs) e = let same : suc (length bs) ≡ n = cc e in (refl, same, omega arith)

  alarms_to : (n : ℕ) (changed : Bool) (stuck : List Path) → changed ≡ false → length stuck ≡ n → 0 < n
      → (if changed then unfinished else verdict_by stuck) ≡ alarms n
  alarms_to n true stuck c e some = absurd (cc c)
  alarms_to n false [] c e some = absurd (let never : ⊥ = omega arith in never)
  alarms_to n false (b ∷ bs) c e some = ap alarms e

  none_from : (changed : Bool) (stuck : List Path) → (if changed then unfinished else verdict_by stuck) ≡ no_alarm → (changed ≡ false) × (stuck ≡ [])
  none_from true stuck e = absurd (cc e)
  none_from false [] e = (refl, refl)
  none_from false (b ∷ bs) e = absurd (cc e)

  none_to : (changed : Bool) (stuck : List Path) → changed ≡ false → stuck ≡ [] → (if changed then unfinished else verdict_by stuck) ≡ no_alarm
  none_to changed stuck c e = ap (λ (b : Bool). if b then unfinished else verdict_by stuck) c ∙ ap verdict_by e

  changed_from : (changed : Bool) (stuck : List Path) → (if changed then unfinished else verdict_by stuck) ≡ unfinished → changed ≡ true
  changed_from true stuck e = refl
  changed_from false [] e = absurd (cc e)
  changed_from false (b ∷ bs) e = absurd (cc e)

  changed_to : (changed : Bool) (stuck : List Path) → changed ≡ true → (if changed then unfinished else verdict_by stuck) ≡ unfinished
  changed_to changed stuck c = ap (λ (b : Bool). if b then unfinished else verdict_by stuck) c

pub legal_chains_are_read : Laws → LegalChainsAreRead
legal_chains_are_read laws k flow defs lines last valid right =
    (legal_from laws k flow defs right valid lines last, legal_ends laws k flow defs right valid lines last)

pub alarms_are_said : Laws → AlarmsAreSaid
alarms_are_said laws k flow defs lines n valid right = (
  λ s.
      let c = said_from laws k flow defs right valid lines (alarms n) (λ e. cc e) s in
      let a = alarms_from laws k flow defs right valid lines n (changes_some (last_pass c.0.passes)) c.0.stuck c.1 in
      (c.0, a.0, a.1, a.2),
  λ (c, final, count, some). said_to laws k flow defs right valid lines (alarms n) c
      (alarms_to laws k flow defs right valid lines n (changes_some (last_pass c.passes)) c.stuck final count some),
)

pub no_alarm_is_said : Laws → NoAlarmIsSaid
no_alarm_is_said laws k flow defs lines valid right = (
  λ s.
      let c = said_from laws k flow defs right valid lines no_alarm (λ e. cc e) s in
      let a = none_from laws k flow defs right valid lines (changes_some (last_pass c.0.passes)) c.0.stuck c.1 in
      (c.0, a.0, a.1),
  λ (c, final, none). said_to laws k flow defs right valid lines no_alarm c
      (none_to laws k flow defs right valid lines (changes_some (last_pass c.passes)) c.stuck final none),
)

pub unfinished_is_said : Laws → UnfinishedIsSaid
unfinished_is_said laws k flow defs lines valid right = (
  λ s.
      let c = said_from laws k flow defs right valid lines unfinished (λ e. cc e) s in
      (c.0, changed_from laws k flow defs right valid lines (changes_some (last_pass c.0.passes)) c.0.stuck c.1),
  λ (c, changed). said_to laws k flow defs right valid lines unfinished c
      (changed_to laws k flow defs right valid lines (changes_some (last_pass c.passes)) c.stuck changed),
)

-- ---- chains that have not ended

open_from : (last : Reading) (stage : Stage) → verdict_at stage last ≡ ends_early → stage ≡ finished → ⊥
open_from last finished e f = at last.changed last.stuck e
  where
    at : (changed : Bool) (stuck : List Path) → (if changed then unfinished else verdict_by stuck) ≡ ends_early → ⊥
    at true stuck e = cc e
    at false [] e = cc e
    at false (b ∷ bs) e = cc e
open_from last cutting e f = cc f
open_from last heading e f = cc f
open_from last passing e f = cc f

open_to : (last : Reading) (stage : Stage) → (stage ≡ finished → ⊥) → verdict_at stage last ≡ ends_early
open_to last finished early = absurd (early refl)
open_to last cutting early = refl
open_to last heading early = refl
open_to last passing early = refl

pub open_is_said : OpenIsSaid
open_is_said k flow defs lines = (
  λ s. record { last = s.last; read = s.read; not_ended = open_from s.last s.last.stage s.says },
  λ o. record { last = o.last; read = o.read; says = open_to o.last o.last.stage o.not_ended },
)

-- ---- chains of which a line is refused

pub refused_is_never_legal : Laws → RefusedIsNeverLegal
refused_is_never_legal laws k flow defs lines more n p valid right i c =
    let both : ◌≡◌ {A = Result Reading (ℕ × ℕ)} (Ok (at_end c)) (Err (n, p)) =
    sym (legal_to laws k flow defs right valid (lines ++ more) c) ∙ refused_before (reading_line k flow defs) 2 lines more begun_chain n p i in
    cc both
