-- Lines of passes are judged by their instances, and what stays so, line by line.
use Rattle.std.proofs.Common.{◌≡◌, ℕ, zero, suc, List, [], ◌∷◌, ◌++◌, true, false, not, refl, ap, sym, subst, ◌∙◌, arith}
use Rattle.std.specs.Prelude.{Ok, Contains, ◌&&◌, ◌||◌}
use Rattle.std.specs.List.{AllByRecursion}
use Rattle.mc_base.specs.declared.ids.PointId.{PointId}
use Rattle.mc_lines.specs.declared.cert.line.Line.{Line}
use Rattle.mc_lines.specs.declared.cert.line.Line.TheVariants as line
use Rattle.mc_flow.specs.declared.defs.rules.Def.{Def}
use Rattle.mc_flow.specs.declared.graph.Flow.{Flow}
use Rattle.mc_flow.specs.Valid.{IsValid}
use Rattle.mc_state.specs.Premises.{Judged, then_give}
use Rattle.mc_state.proofs.Numbered.{need_ok, need_yes, have_ok, have_yes, then_ok}
use Rattle.mc_state.proofs.Tests.{and_both}
use Rattle.mc_state.specs.RawStates.{state_of}
use Rattle.mc_rules_steps.specs.Operands.{code_at}
use Rattle.mc_kernel.specs.Branches.{Head, Path, Setting, roots, states_at}
use Rattle.mc_kernel.specs.Instances.{IsInstance}
use Rattle.mc_kernel.specs.JudgedLaws.{LinesAreJudged}
use Rattle.mc_kernel.specs.Judges.{is_cut, judged_line}
use Rattle.mc_kernel.specs.Reading.Documents.{IsMade}
use Rattle.mc_kernel.specs.Readings.{comes_after, first_branch, has_no_branch, is_skip, marked}
use Rattle.mc_kernel.proofs.ReadingLemmas.Kept.{first_is}
use Rattle.mc_kernel.proofs.ReadingLemmas.Lists.{all_end, all_join, cut_from}
use Rattle.mc_joins.specs.Chains.Chains.{IsPassLine, changes, over}
use Rattle.mc_joins.specs.Chains.Judges.{Lore, Outcome, Reading, Stage, basis, cutting, finished, heading, passing, is_cutting, is_passing}
use Rattle.mc_joins.specs.Chains.Judges.{joining_state, may_head, may_pass, opening_state, passing_line, reading_line, reading_rule, stands_behind}
use Rattle.mc_joins.specs.Chains.Laws.{IsRight, JoiningIsJudged, Made, OpeningIsJudged}
use Rattle.mc_joins.specs.Chains.Opened.{JoinsState, OpensState}
use Rattle.mc_joins.specs.Chains.Read.{IsKept, IsReadAt}
use Rattle.mc_joins.specs.Chains.ReadLaws.{BegunChainIsKept, LinesKeepChains, PassLinesAreJudged, PassLinesAreRead}
use Rattle.mc_joins.proofs.ChainsLemmas.Final.{all_at, line_keeps, roots_made}
use Rattle.mc_joins.proofs.ChainsLemmas.NewStates.{MakingLaws, NewStatesAreMade, new_states}

-- what is used of lines
pub record Laws : Type 0 where
  pub making : MakingLaws
  pub judged : LinesAreJudged
  pub opening : OpeningIsJudged
  pub joining : JoiningIsJudged

-- ---- lines of passes are judged

module _ (laws : Laws) (k : Lore) (flow : Flow) (defs : List Def) (right : IsRight k flow defs) (round : ℕ) (g : Setting) (b : Path)
    (made : IsMade flow defs b) (lefts_made : AllByRecursion (Made flow defs) (states_at b.point g.heads)) where
  -- a line that changes no state of a cut
  abbrev same_heads : List Path → Outcome
  same_heads next = record { next = next; heads = g.heads }

  -- and one after which a branch ends
  abbrev ending : List Head → Outcome
  ending heads = record { next = []; heads = heads }

  plain_from : (l : Line) (out : Outcome) → then_give same_heads (judged_line k.lines flow defs g l b) ≡ Ok out → IsInstance flow defs g l b out.next
      × (out.heads ≡ g.heads)
  plain_from l out e =
      let given = then_ok same_heads (judged_line k.lines flow defs g l b) out e in
      let i : IsInstance flow defs g l b given.0 = (laws.judged k.lines flow defs g l b (right.asked b made) given.0).0 given.1 in
      subst (λ (o : Outcome). IsInstance flow defs g l b o.next × (o.heads ≡ g.heads)) (sym given.2) (i, refl)

  plain_to : (l : Line) (out : Outcome) → IsInstance flow defs g l b out.next × (out.heads ≡ g.heads)
      → then_give same_heads (judged_line k.lines flow defs g l b) ≡ Ok out
  plain_to l out i =
      ap (then_give same_heads) ((laws.judged k.lines flow defs g l b (right.asked b made) out.next).1 i.0)
      ∙ ap (λ (heads : List Head). let o : Outcome = record { next = out.next; heads = heads } in let j : Judged Outcome = Ok o in j) (sym i.1)

  pub line_from : (l : Line) (out : Outcome) → passing_line k flow defs round g l b ≡ Ok out → IsPassLine flow (basis k defs) round g l b out.next out.heads
  line_from (line.C2 tries) out e =
      let given = then_ok ending (opening_state k defs g tries b) out e in
      let i = (laws.opening k flow defs g tries b right made lefts_made given.0).0 given.1 in
      subst (λ (o : Outcome). OpensState (basis k defs) g tries b o.next o.heads) (sym given.2) i
  line_from (line.C3 j steps) out e =
      let given = then_ok ending (joining_state k defs round g j steps b) out e in
      let i = (laws.joining k flow defs round g j steps b right made lefts_made given.0).0 given.1 in
      subst (λ (o : Outcome). JoinsState (basis k defs) round flow.thresholds g j steps b o.next o.heads) (sym given.2) i
  line_from l out e = plain_from l out e

  -- an outcome after which a branch ends
  ended_out : (out : Outcome) → out.next ≡ [] → ◌≡◌ {A = Judged Outcome} (Ok (ending out.heads)) (Ok out)
  ended_out out none = ap (λ (next : List Path). let o : Outcome = record { next = next; heads = out.heads } in let j : Judged Outcome = Ok o in j) (sym none)

  pub line_to : (l : Line) (out : Outcome) → IsPassLine flow (basis k defs) round g l b out.next out.heads → passing_line k flow defs round g l b ≡ Ok out
  line_to (line.C2 tries) out i =
      let there : OpensState (basis k defs) g tries b [] out.heads = subst
      (λ (next : List Path). OpensState (basis k defs) g tries b next out.heads) i.ends i in
      ap (then_give ending) ((laws.opening k flow defs g tries b right made lefts_made out.heads).1 there) ∙ ended_out out i.ends
  line_to (line.C3 j steps) out i =
      let there : JoinsState (basis k defs) round flow.thresholds g j steps b [] out.heads = subst
      (λ (next : List Path). JoinsState (basis k defs) round flow.thresholds g j steps b next out.heads) i.ends i in
      ap (then_give ending) ((laws.joining k flow defs round g j steps b right made lefts_made out.heads).1 there) ∙ ended_out out i.ends
  line_to l out i = plain_to l out i

pub pass_lines_are_judged : Laws → PassLinesAreJudged
pass_lines_are_judged laws k flow defs round g l b right made lefts_made out =
    (line_from laws k flow defs right round g b made lefts_made l out, line_to laws k flow defs right round g b made lefts_made l out)

-- ---- what stays so

in_pass : (s : Stage) → is_passing s ≡ true → s ≡ passing
in_pass cutting e = absurd (cc e)
in_pass heading e = absurd (cc e)
in_pass passing e = refl
in_pass finished e = absurd (cc e)

module _ (p : PointId) where
  -- what is in a list is in a longer one
  contains_more : (q : PointId) (cuts : List PointId) → Contains cuts q → Contains (cuts ++ p ∷ []) q
  contains_more q [] (i, less, e) = absurd (let never : ⊥ = omega arith in never)
  contains_more q (c ∷ cuts) (zero, less, e) = (zero, omega arith, e)
  contains_more q (c ∷ cuts) (suc i, less, e) =
      let rest = contains_more q cuts (i, omega arith, e) in
      let below = rest.1 in
      (suc rest.0, omega arith, rest.2)

  more_cuts : (flow : Flow) (defs : List Def) (cuts : List PointId) (heads : List Head)
      → AllByRecursion (λ (h : Head). Contains cuts h.0 × Made flow defs h.1) heads
      → AllByRecursion (λ (h : Head). Contains (cuts ++ p ∷ []) h.0 × Made flow defs h.1) heads
  more_cuts flow defs cuts [] a = tt
  more_cuts flow defs cuts (h ∷ heads) a = ((contains_more h.0 cuts a.0.0, a.0.1), more_cuts flow defs cuts heads a.1)

module _ (laws : Laws) (k : Lore) (flow : Flow) (defs : List Def) (right : IsRight k flow defs) where
  abbrev Good : List PointId → Head → Type 0
  Good cuts h = Contains cuts h.0 × Made flow defs h.1

  pub states_good : (cuts : List PointId) (p : PointId) (heads : List Head) → AllByRecursion (Good cuts) heads
      → AllByRecursion (Made flow defs) (states_at p heads)
  states_good cuts p heads good = all_at (Made flow defs) p heads (only heads good)
    where
      only : (heads : List Head) → AllByRecursion (Good cuts) heads → AllByRecursion (λ (h : Head). Made flow defs h.1) heads
      only [] a = tt
      only (h ∷ heads) a = (a.0.1, only heads a.1)

  module _ (l : Line) (r new : Reading) (kept : IsKept flow defs r) where
    abbrev come : Path × List Path → Outcome → Reading
    come b out = record r { heads = out.heads; branches = out.next ++ b.1; stuck = r.stuck ++ marked l b.0; changed = r.changed || changes l }

    first_made : (b : Path) (bs : List Path) → r.branches ≡ b ∷ bs → IsMade flow defs b
    first_made b bs open_are = (subst (AllByRecursion (IsMade flow defs)) open_are kept.branches).0

    pub rule_from : reading_rule k flow defs l r ≡ Ok new → IsReadAt flow (basis k defs) l r new
    rule_from e =
        let one = need_ok 1 (is_passing r.stage) _ new e in
        let two = have_ok 1 (first_branch r.branches) _ new one.1 in
        let b = two.0 in
        let given = then_ok (come b) (passing_line k flow defs r.round (over r.cuts r.heads) l b.0) new two.2 in
        let open_are = first_is r.branches b two.1 in
        record {
          in_pass = in_pass r.stage one.0;
          first = b.0;
          others = b.1;
          open_are = open_are;
          next = given.0.next;
          heads = given.0.heads;
          instance = line_from laws k flow defs right r.round (over r.cuts r.heads) b.0 (first_made b.0 b.1 open_are)
              (states_good r.cuts b.0.point r.heads kept.heads) l given.0 given.1;
          gives = given.2;
        }

    pub rule_to : IsReadAt flow (basis k defs) l r new → reading_rule k flow defs l r ≡ Ok new
    rule_to i =
        let out : Outcome = record { next = i.next; heads = i.heads } in
        let judged = line_to laws k flow defs right r.round (over r.cuts r.heads) i.first (first_made i.first i.others i.open_are)
        (states_good r.cuts i.first.point r.heads kept.heads) l out i.instance in
        need_yes 1 (is_passing r.stage) _ (ap is_passing i.in_pass)
        ∙ have_yes 1 (first_branch r.branches) _ (i.first, i.others) (ap first_branch i.open_are)
        ∙ ap (then_give (come (i.first, i.others))) judged
        ∙ ap (λ (x : Reading). Ok x) (sym i.gives)

  module _ (valid : IsValid flow defs) where
    new : NewStatesAreMade k.lines.know flow defs
    new = new_states laws.making.anew_bounded laws.making.joins k.lines.know flow defs right.knows

    read_kept : (l : Line) (r next : Reading) → IsKept flow defs r → IsReadAt flow (basis k defs) l r next → IsKept flow defs next
    read_kept l r next kept i =
        let made = subst (AllByRecursion (IsMade flow defs)) i.open_are kept.branches in
        let keeps = line_keeps laws.making.made laws.making.unknown flow defs valid k.lines.know new r.cuts r.round r.heads i.heads l i.first i.next
        kept.heads made.0
        i.instance in
        subst (IsKept flow defs) (sym i.gives) (record { heads = keeps.1; branches = all_join (IsMade flow defs) i.next i.others keeps.0 made.1 })

    pub line_kept : (l : Line) (r next : Reading) → IsKept flow defs r → reading_line k flow defs l r ≡ Ok next → IsKept flow defs next
    line_kept (line.Header version form) r next kept e = absurd (cc e)
    line_kept (line.Cut p) r next kept e =
        let one = need_ok 1 (is_cutting r.stage) _ next e in
        let three = need_ok 3 (is_skip (code_at flow p)) _ next one.1 in
        let four = need_ok 4 (comes_after r.cuts p) _ next three.1 in
        let is : record r { cuts = r.cuts ++ p ∷ [] } ≡ next = cc four.1 in
        subst (IsKept flow defs) is (record { heads = more_cuts p flow defs r.cuts r.heads kept.heads; branches = kept.branches })
    line_kept (line.Head p raw) r next kept e =
        let one = need_ok 1 (may_head flow r r.stage) _ next e in
        let three = need_ok 3 (is_cut r.cuts p && stands_behind r.heads p) _ next one.1 in
        let four = need_ok 4 (k.formed raw) _ next three.1 in
        let at_cut = cut_from r.cuts p (and_both (is_cut r.cuts p) (stands_behind r.heads p) three.0).0 in
        let is : record r { stage = heading; heads = r.heads ++ (p, state_of raw) ∷ [] } ≡ next = cc four.1 in
        subst (IsKept flow defs) is
        (record { heads = all_end (Good r.cuts) r.heads (p, state_of raw) kept.heads (at_cut, ((right.formed raw).0 four.0).made); branches = kept.branches })
    line_kept line.Pass r next kept e =
        let one = need_ok 1 (may_pass flow r r.stage) _ next e in
        let three = need_ok 3 (has_no_branch r.branches && (not (is_passing r.stage) || r.changed)) _ next one.1 in
        let is : record r { stage = passing; round = suc r.round; branches = roots flow r.heads; stuck = []; changed = false } ≡ next = cc three.1 in
        subst (IsKept flow defs) is (record {
          heads = kept.heads;
          branches = roots_made laws.making.made laws.making.unknown flow defs valid k.lines.know new r.cuts r.heads
              kept.heads;
        })
    line_kept line.End r next kept e =
        let one = need_ok 1 (is_passing r.stage) _ next e in
        let three = need_ok 3 (has_no_branch r.branches) _ next one.1 in
        let is : record r { stage = finished } ≡ next = cc three.1 in
        subst (IsKept flow defs) is (record { heads = kept.heads; branches = kept.branches })
    line_kept l r next kept e = read_kept l r next kept (rule_from l r next kept e)

pub pass_lines_are_read : Laws → PassLinesAreRead
pass_lines_are_read laws k flow defs (line.Header version form) r new right kept e = absurd (cc e)
pass_lines_are_read laws k flow defs (line.Cut p) r new right kept e = absurd (cc e)
pass_lines_are_read laws k flow defs (line.Head p raw) r new right kept e = absurd (cc e)
pass_lines_are_read laws k flow defs line.Pass r new right kept e = absurd (cc e)
pass_lines_are_read laws k flow defs line.End r new right kept e = absurd (cc e)
pass_lines_are_read laws k flow defs l r new right kept e = (rule_from laws k flow defs right l r new kept, rule_to laws k flow defs right l r new kept)

pub begun_chain_is_kept : BegunChainIsKept
begun_chain_is_kept flow defs = record { heads = tt; branches = tt }

pub lines_keep_chains : Laws → LinesKeepChains
lines_keep_chains laws k flow defs l r new valid right kept e = line_kept laws k flow defs right valid l r new kept e
