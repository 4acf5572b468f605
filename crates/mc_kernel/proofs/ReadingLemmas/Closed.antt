-- A document that has ended has no open branch, and lines that are added.
use Rattle.std.proofs.Common.{◌≡◌, ◌+◌, ℕ, suc, List, [], ◌∷◌, ◌++◌, Bool, true, false, not, Some, None, length, refl, ap, sym, subst, ◌∙◌}
use Rattle.std.specs.Prelude.{Ok, ◌&&◌, if◌then◌else◌}
use Rattle.mc_lines.specs.declared.cert.line.Line.{Line}
use Rattle.mc_lines.specs.declared.cert.line.Line.TheVariants as line
use Rattle.mc_flow.specs.declared.defs.rules.Def.{Def}
use Rattle.mc_flow.specs.declared.graph.Flow.{Flow}
use Rattle.mc_state.proofs.Numbered.{need_ok, have_ok, then_ok}
use Rattle.mc_state.specs.declared.line.Form.{Form}
use Rattle.mc_state.specs.declared.line.Form.TheVariants.{Certificate, Chain}
use Rattle.mc_state.specs.declared.raw_state.RawState.{RawState}
use Rattle.mc_rules_steps.specs.Operands.{code_at}
use Rattle.mc_kernel.specs.Branches.{Path, roots}
use Rattle.mc_kernel.specs.Certificates.{states_of}
use Rattle.mc_kernel.specs.Judges.{Knowledge, is_cut, judged_line}
use Rattle.mc_kernel.specs.Readings.{Reading, Stage, cutting, heading, ruling, finished, begun, is_cutting, is_ruling, is_skip, comes_after, stands_after, has_all_heads, may_head, may_pass, has_no_branch, first_branch, marked, ready, rooted, ruled, setting_of, reading_rule, reading_line, reading_lines}
use Rattle.mc_kernel.specs.Reading.Laws.{EndedIsClosed, LinesAreAdded}
use Rattle.mc_kernel.proofs.ReadingLemmas.Kept.{some_is}
use Rattle.mc_kernel.proofs.ReadingLemmas.Refused.{lines_split}
use Rattle.mc_kernel.proofs.ReadingLemmas.Rules.{behind_ok, same_reading}

-- where it has ended, no branch is open
abbrev IsClosed : Reading → Type 0
IsClosed r = r.stage ≡ finished → r.branches ≡ []

rules_begin : (flow : Flow) (r t : Reading) (full : Bool) → (if full then Some (ruled r (roots flow (states_of r.heads))) else None) ≡ Some t → t.stage ≡ ruling
rules_begin flow r t true e = ap (λ (x : Reading). x.stage) (sym (some_is (ruled r (roots flow (states_of r.heads))) t e))
rules_begin flow r t false e = absurd (cc e)

rooted_rules : (flow : Flow) (r t : Reading) (form : Form) → rooted flow r form ≡ Some t → t.stage ≡ ruling
rooted_rules flow r t Certificate e = rules_begin flow r t (has_all_heads flow r.cuts) e
rooted_rules flow r t Chain e = absurd (cc e)

ready_rules : (flow : Flow) (r t : Reading) (stage : Stage) → r.stage ≡ stage → ready flow r stage ≡ Some t → t.stage ≡ ruling
ready_rules flow r t cutting is e = rooted_rules flow r t r.form e
ready_rules flow r t heading is e = rooted_rules flow r t r.form e
ready_rules flow r t ruling is e = ap (λ (x : Reading). x.stage) (sym (some_is r t e)) ∙ is
ready_rules flow r t finished is e = absurd (cc e)

still_ruling : (r : Reading) → r.stage ≡ ruling → IsClosed r
still_ruling r is f = let clash : ruling ≡ finished = sym is ∙ f in absurd (cc clash)

no_branch : (bs : List Path) → has_no_branch bs ≡ true → bs ≡ []
no_branch [] e = refl
no_branch (b ∷ bs) e = absurd (cc e)

module _ (k : Knowledge) (well : RawState → Bool) (flow : Flow) (defs : List Def) where
  rule_closed : (l : Line) (r new : Reading) → reading_rule k flow defs l r ≡ Ok new → IsClosed new
  rule_closed l r new e =
      let one = have_ok 1 (ready flow r r.stage) _ new e in
      let two = have_ok 1 (first_branch one.0.branches) _ new one.2 in
      let come : List Path → Reading = λ (next : List Path). record one.0 { branches = next ++ two.0.1; stuck = one.0.stuck ++ marked l two.0.0 } in
      let given = then_ok come (judged_line k flow defs (setting_of one.0) l two.0.0) new two.2 in
      still_ruling new (ap (λ (x : Reading). x.stage) given.2 ∙ ready_rules flow r one.0 r.stage refl one.1)

  line_closed : (l : Line) (r new : Reading) → IsClosed r → reading_line k well flow defs l r ≡ Ok new → IsClosed new
  line_closed (line.Header version form) r new closed e = absurd (cc e)
  line_closed (line.Cut p) r new closed e =
      let one = need_ok 1 (is_cutting r.stage) _ new e in
      let three = need_ok 3 (is_skip (code_at flow p)) _ new one.1 in
      let four = need_ok 4 (comes_after r.cuts p) _ new three.1 in
      let is : record r { cuts = r.cuts ++ p ∷ [] } ≡ new = cc four.1 in
      subst IsClosed is closed
  line_closed (line.Head p raw) r new closed e =
      let one = need_ok 1 (may_head flow r r.stage) _ new e in
      let three = need_ok 3 (is_cut r.cuts p && stands_after r.heads p) _ new one.1 in
      let four = need_ok 4 (well raw) _ new three.1 in
      let is : record r { stage = heading; heads = r.heads ++ (p, raw) ∷ [] } ≡ new = cc four.1 in
      subst IsClosed is (λ f. let clash : heading ≡ finished = f in absurd (cc clash))
  line_closed line.Pass r new closed e =
      let one = need_ok 1 (may_pass flow r r.stage) _ new e in
      let three = need_ok 3 (not (is_ruling r.stage)) _ new one.1 in
      let is : ruled r (roots flow (states_of r.heads)) ≡ new = cc three.1 in
      subst IsClosed is (still_ruling (ruled r (roots flow (states_of r.heads))) refl)
  line_closed line.End r new closed e =
      let one = have_ok 1 (ready flow r r.stage) _ new e in
      let three = need_ok 3 (has_no_branch one.0.branches) _ new one.2 in
      let is : record one.0 { stage = finished } ≡ new = cc three.1 in
      subst IsClosed is (λ f. no_branch one.0.branches three.0)
  line_closed l r new closed e = rule_closed l r new e

  lines_closed : (n : ℕ) (lines : List Line) (r last : Reading) → IsClosed r → reading_lines k well flow defs n lines r ≡ Ok last → IsClosed last
  lines_closed n [] r last closed e = subst IsClosed (same_reading r last e) closed
  lines_closed n (l ∷ lines) r last closed e =
      let read = behind_ok n (reading_line k well flow defs l r) (reading_lines k well flow defs (suc n) lines) last e in
      lines_closed (suc n) lines read.0 last (line_closed l r read.0 closed read.1) read.2

pub ended_is_closed : EndedIsClosed
ended_is_closed k well flow defs form lines last e f =
    lines_closed k well flow defs 2 lines (begun form) last (λ g. let clash : cutting ≡ finished = g in absurd (cc clash)) e f

pub lines_are_added : LinesAreAdded
lines_are_added k well flow defs form lines l r e = lines_split k well flow defs 2 (2 + length lines) lines (l ∷ []) (begun form) r refl e
