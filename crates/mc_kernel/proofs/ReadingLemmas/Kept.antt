-- What stays so, line by line.
use Rattle.std.proofs.Common.{◌≡◌, List, [], ◌∷◌, ◌++◌, Bool, true, false, not, Option, Some, None, ap, sym, subst, ◌∙◌}
use Rattle.std.specs.Prelude.{Ok, ◌&&◌, if◌then◌else◌}
use Rattle.std.specs.List.{AllByRecursion}
use Rattle.mc_lines.specs.declared.cert.line.Line.{Line}
use Rattle.mc_lines.specs.declared.cert.line.Line.TheVariants as line
use Rattle.mc_flow.specs.declared.defs.rules.Def.{Def}
use Rattle.mc_flow.specs.declared.graph.Flow.{Flow}
use Rattle.mc_flow.specs.Valid.{IsValid}
use Rattle.mc_state.specs.Premises.{then_give}
use Rattle.mc_state.proofs.Numbered.{need_ok, have_ok, have_yes, then_ok}
use Rattle.mc_state.specs.declared.line.Form.{Form}
use Rattle.mc_state.specs.declared.line.Form.TheVariants.{Certificate, Chain}
use Rattle.mc_state.specs.declared.raw_state.RawState.{RawState}
use Rattle.mc_state.specs.RawStates.{IsWellFormedRaw}
use Rattle.mc_rules_steps.specs.Operands.{code_at}
use Rattle.mc_kernel.specs.Branches.{Path, roots}
use Rattle.mc_kernel.specs.Certificates.{WrittenHead, states_of}
use Rattle.mc_kernel.specs.JudgedLaws.{LinesAreJudged}
use Rattle.mc_kernel.specs.Judges.{Knowledge, is_cut, judged_line}
use Rattle.mc_kernel.specs.Readings.{Reading, Stage, cutting, heading, ruling, finished, setting_of, is_cutting, is_ruling, has_all_heads, ready, rooted, ruled, is_skip, comes_after, stands_after, may_head, may_pass, has_no_branch, first_branch, marked, reading_rule, reading_line}
use Rattle.mc_kernel.specs.Reading.Documents.{IsMade, IsJudge, IsAskedHere, IsKept, IsReadAt}
use Rattle.mc_kernel.specs.Reading.Laws.{BegunIsKept, LinesKeep, RulesAreRead}
use Rattle.mc_kernel.proofs.ReadingLemmas.Lists.{all_end, all_join}
use Rattle.mc_kernel.proofs.ReadingLemmas.Made.{line_made}
use Rattle.mc_kernel.proofs.ReadingLemmas.Rules.{Right}
use Rattle.mc_kernel.proofs.ReadingLemmas.Whole.{roots_made}

pub some_is : {A : Type 0} (a b : A) → ◌≡◌ {A = Option A} (Some a) (Some b) → a ≡ b
some_is a b e = cc e

pub first_is : (bs : List Path) (b : Path × List Path) → first_branch bs ≡ Some b → bs ≡ b.0 ∷ b.1
first_is [] b e = absurd (cc e)
first_is (c ∷ bs) b e =
    let pair : ◌≡◌ {A = Path × List Path} (c, bs) b = some_is (c, bs) b e in
    ap (λ (x : Path × List Path). x.0 ∷ x.1) pair

-- where the line of a rule is read, what is asked of the first open branch being answered rightly
module _ (judged : LinesAreJudged) (k : Knowledge) (flow : Flow) (defs : List Def) (l : Line) (r new : Reading) (asked : IsAskedHere k flow defs r) where
  pub here_from : reading_rule k flow defs l r ≡ Ok new → IsReadAt flow defs l r new
  here_from e =
      let one = have_ok 1 (ready flow r r.stage) _ new e in
      let two = have_ok 1 (first_branch one.0.branches) _ new one.2 in
      let come : List Path → Reading = λ (next : List Path). record one.0 { branches = next ++ two.0.1; stuck = one.0.stuck ++ marked l two.0.0 } in
      let given = then_ok come (judged_line k flow defs (setting_of one.0) l two.0.0) new two.2 in
      let open_are = first_is one.0.branches two.0 two.1 in
      record {
        begun_rules = one.0;
        is_ready = one.1;
        first = two.0.0;
        others = two.0.1;
        open_are = open_are;
        next = given.0;
        instance = (judged k flow defs (setting_of one.0) l two.0.0 (asked one.0 two.0.0 two.0.1 one.1 open_are) given.0).0 given.1;
        gives = given.2;
      }

  pub here_to : IsReadAt flow defs l r new → reading_rule k flow defs l r ≡ Ok new
  here_to i =
      let come : List Path → Reading = λ (next : List Path). record i.begun_rules { branches = next ++ i.others; stuck = i.begun_rules.stuck ++ marked l i.first } in
      have_yes 1 (ready flow r r.stage) _ i.begun_rules i.is_ready
      ∙ have_yes 1 (first_branch i.begun_rules.branches) _ (i.first, i.others) (ap first_branch i.open_are)
      ∙ ap (then_give come) ((judged k flow defs (setting_of i.begun_rules) l i.first (asked i.begun_rules i.first i.others i.is_ready i.open_are) i.next).1 i.instance)
      ∙ ap (λ (x : Reading). Ok x) (sym i.gives)

module _ (right : Right) (k : Knowledge) (well : RawState → Bool) (flow : Flow) (defs : List Def) (valid : IsValid flow defs) (judge : IsJudge k well flow defs) where
  abbrev Formed : WrittenHead → Type 0
  Formed h = IsWellFormedRaw defs flow.vars flow.structs.list h.1

  ruled_kept : (r : Reading) → IsKept flow defs r → IsKept flow defs (ruled r (roots flow (states_of r.heads)))
  ruled_kept r kept = record { heads = kept.heads; branches = roots_made right k well flow defs valid judge r.heads kept.heads }

  rooted_kept : (r t : Reading) (full : Bool) → IsKept flow defs r → (if full then Some (ruled r (roots flow (states_of r.heads))) else None) ≡ Some t → IsKept flow defs t
  rooted_kept r t true kept e = subst (IsKept flow defs) (some_is (ruled r (roots flow (states_of r.heads))) t e) (ruled_kept r kept)
  rooted_kept r t false kept e = absurd (cc e)

  rooted_in : (r t : Reading) (form : Form) → IsKept flow defs r → rooted flow r form ≡ Some t → IsKept flow defs t
  rooted_in r t Certificate kept e = rooted_kept r t (has_all_heads flow r.cuts) kept e
  rooted_in r t Chain kept e = absurd (cc e)

  ready_in : (r t : Reading) (stage : Stage) → IsKept flow defs r → ready flow r stage ≡ Some t → IsKept flow defs t
  ready_in r t cutting kept e = rooted_in r t r.form kept e
  ready_in r t heading kept e = rooted_in r t r.form kept e
  ready_in r t ruling kept e = subst (IsKept flow defs) (some_is r t e) kept
  ready_in r t finished kept e = absurd (cc e)

  pub ready_kept : (r t : Reading) → IsKept flow defs r → ready flow r r.stage ≡ Some t → IsKept flow defs t
  ready_kept r t kept e = ready_in r t r.stage kept e

  asked_here : (r : Reading) → IsKept flow defs r → IsAskedHere k flow defs r
  asked_here r kept t b bs is open_are = judge.asked b (subst (AllByRecursion (IsMade flow defs)) open_are (ready_kept r t kept is).branches).0

  rule_from : (l : Line) (r new : Reading) → IsKept flow defs r → reading_rule k flow defs l r ≡ Ok new → IsReadAt flow defs l r new
  rule_from l r new kept e = here_from right.judged k flow defs l r new (asked_here r kept) e

  read_kept : (l : Line) (r new : Reading) → IsKept flow defs r → IsReadAt flow defs l r new → IsKept flow defs new
  read_kept l r new kept i =
      let before = ready_kept r i.begun_rules kept i.is_ready in
      let made = subst (AllByRecursion (IsMade flow defs)) i.open_are before.branches in
      subst (IsKept flow defs) (sym i.gives) (record {
        heads = before.heads;
        branches = all_join (IsMade flow defs) i.next i.others (line_made right.makes flow defs (setting_of i.begun_rules) valid l i.first i.next made.0 i.instance) made.1;
      })

  line_kept : (l : Line) (r new : Reading) → IsKept flow defs r → reading_line k well flow defs l r ≡ Ok new → IsKept flow defs new
  line_kept (line.Header version form) r new kept e = absurd (cc e)
  line_kept (line.Cut p) r new kept e =
      let one = need_ok 1 (is_cutting r.stage) _ new e in
      let three = need_ok 3 (is_skip (code_at flow p)) _ new one.1 in
      let four = need_ok 4 (comes_after r.cuts p) _ new three.1 in
      let is : record r { cuts = r.cuts ++ p ∷ [] } ≡ new = cc four.1 in
      subst (IsKept flow defs) is (record { heads = kept.heads; branches = kept.branches })
  line_kept (line.Head p raw) r new kept e =
      let one = need_ok 1 (may_head flow r r.stage) _ new e in
      let three = need_ok 3 (is_cut r.cuts p && stands_after r.heads p) _ new one.1 in
      let four = need_ok 4 (well raw) _ new three.1 in
      let is : record r { stage = heading; heads = r.heads ++ (p, raw) ∷ [] } ≡ new = cc four.1 in
      subst (IsKept flow defs) is (record { heads = all_end Formed r.heads (p, raw) kept.heads ((judge.formed raw).0 four.0); branches = kept.branches })
  line_kept line.Pass r new kept e =
      let one = need_ok 1 (may_pass flow r r.stage) _ new e in
      let three = need_ok 3 (not (is_ruling r.stage)) _ new one.1 in
      let is : ruled r (roots flow (states_of r.heads)) ≡ new = cc three.1 in
      subst (IsKept flow defs) is (ruled_kept r kept)
  line_kept line.End r new kept e =
      let one = have_ok 1 (ready flow r r.stage) _ new e in
      let three = need_ok 3 (has_no_branch one.0.branches) _ new one.2 in
      let before = ready_kept r one.0 kept one.1 in
      let is : record one.0 { stage = finished } ≡ new = cc three.1 in
      subst (IsKept flow defs) is (record { heads = before.heads; branches = before.branches })
  line_kept l r new kept e = read_kept l r new kept (rule_from l r new kept e)

pub rules_are_read : LinesAreJudged → RulesAreRead
rules_are_read judged k well flow defs (line.Header version form) r new asked e = absurd (cc e)
rules_are_read judged k well flow defs (line.Cut p) r new asked e = absurd (cc e)
rules_are_read judged k well flow defs (line.Head p raw) r new asked e = absurd (cc e)
rules_are_read judged k well flow defs line.Pass r new asked e = absurd (cc e)
rules_are_read judged k well flow defs line.End r new asked e = absurd (cc e)
rules_are_read judged k well flow defs l r new asked e = (here_from judged k flow defs l r new asked, here_to judged k flow defs l r new asked)

pub begun_is_kept : BegunIsKept
begun_is_kept flow defs form = record { heads = tt; branches = tt }

pub lines_keep : Right → LinesKeep
lines_keep right k well flow defs l r new valid judge kept e = line_kept right k well flow defs valid judge l r new kept e
